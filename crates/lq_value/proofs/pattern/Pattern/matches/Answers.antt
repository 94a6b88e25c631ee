use Rattle.std.proofs.Common.{◌≡◌, rules}
use Rattle.std.specs.Str.{chars}
use Rattle.lq_value_pattern.specs.Pattern.{is_fit}
use Rattle.lq_value.proofs.FormLemmas.{fits_tells}
use Rattle.lq_value.proofs.pattern.Pattern.matches.Goals as goal

pub returns-in-PlainText-clause-split : goal.returns-in-PlainText-clause-split
returns-in-PlainText-clause-split c =
    let same : c.fits_plain.result ≡ is_fit c.args.self.now (chars c.args.text.now) = search rules
    in
    fits_tells _ _ _ c.fits_are_splits.ensures same

pub returns-in-StarredText-clause-split : goal.returns-in-StarredText-clause-split
returns-in-StarredText-clause-split c =
    let same : c.fits.result ≡ is_fit c.args.self.now (chars c.args.text.now) = search rules in
    fits_tells _ _ _ c.fits_are_splits.ensures same

pub returns-in-Elements-clause-split : goal.returns-in-Elements-clause-split
returns-in-Elements-clause-split c =
    let same : c.fits_text.result ≡ is_fit c.args.self.now (chars c.args.text.now) = search rules in
    fits_tells _ _ _ c.fits_are_splits.ensures same
