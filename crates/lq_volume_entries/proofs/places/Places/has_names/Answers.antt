use Rattle.std.proofs.Common.{◌≡◌, rules, false}
use Rattle.lq_volume_entries.specs.Places.{has_names}
use Rattle.lq_volume_entries.proofs.NameLemmas.{nameless-is}
use Rattle.lq_volume_entries.proofs.places.Places.has_names.Goals as goal

pub returns-in-None : goal.returns-in-None
returns-in-None c =
    let is : false ≡ has_names c.args.self.now c.args.dir = search rules in
    nameless-is c.args.self.now c.args.dir _ is

pub returns-in-Some : goal.returns-in-Some
returns-in-Some c =
    let is : c.has_any.result ≡ has_names c.args.self.now c.args.dir = search rules in
    nameless-is c.args.self.now c.args.dir _ is
