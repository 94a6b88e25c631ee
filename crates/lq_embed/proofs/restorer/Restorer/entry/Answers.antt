use Rattle.std.proofs.Common.{◌≡◌, ◌∙◌, ℕ, List, [], sym, inl, refl, subst, to_z, of_z, to_z-of_z, w64}
use Rattle.std.specs.Prelude.{Some, None, unwrap_or, if◌then◌else◌}
use Rattle.lq_value.specs.declared.refusal.Refusal.TheVariants.{BadName, NoMemory}
use Rattle.lq_value.specs.Name.{is_name}
use Rattle.lq_embed.specs.Numbers.{kind_numbered}
use Rattle.lq_embed.specs.Restorer.{entry_outcome, restores, without_attrs}
use Rattle.lq_embed.proofs.RestorerLemmas.{entry-named, entry-not_utf8, entry-pushed, named-refused, with-none}
use Rattle.lq_embed.proofs.restorer.Restorer.entry.Goals as goal

pub returns-in_default : goal.returns-in_default
returns-in_default c =
    let none : c.replace-attrs.new.dest.items ≡ [] = cc in
    with-none (restores c.args.self.now) c.replace-attrs.new.dest.items
    (entry_outcome (restores c.args.self.now) c.args.node c.args.dir c.args.name.now c.args.kind
    c.args.size c.args.time) c.status.result none
    (entry-not_utf8 (restores c.args.self.now) c.args.node c.args.dir c.args.name.now c.args.kind
    c.args.size c.args.time c.status.result c.in_default.ensures.cases.0 c.status.ensures)

pub returns-in_default-kind_numbered : goal.returns-in_default-kind_numbered
returns-in_default-kind_numbered c =
    let none : c.replace-attrs.new.dest.items ≡ [] = cc in
    let is : kind_numbered c.args.kind ≡ None = cc in
    let text = c.in-Ok.ensures.cases in
    with-none (restores c.args.self.now) c.replace-attrs.new.dest.items
    (entry_outcome (restores c.args.self.now) c.args.node c.args.dir c.args.name.now c.args.kind
    c.args.size c.args.time) c.status-in_default-kind_numbered.result none
    (entry-named (restores c.args.self.now) c.args.node c.args.dir c.args.name.now c.args.kind
    c.args.size c.args.time None (without_attrs (restores c.args.self.now))
    (without_attrs (restores c.args.self.now)) c.status-in_default-kind_numbered.result text.1 is
    (inl c.status-in_default-kind_numbered.ensures, refl))

pub returns-in-Err : goal.returns-in-Err
returns-in-Err c =
    let none : c.replace-attrs.new.dest.items ≡ [] = cc in
    let is : kind_numbered c.args.kind ≡ Some c.in-Some.kind = cc in
    let text = c.in-Ok.ensures.cases in
    let r = restores c.args.self.now in
    with-none r c.replace-attrs.new.dest.items
    (entry_outcome r c.args.node c.args.dir c.args.name.now c.args.kind
    c.args.size c.args.time) c.status-in-Err.result none
    (entry-named r c.args.node c.args.dir c.args.name.now c.args.kind
    c.args.size c.args.time (Some c.in-Some.kind) (without_attrs r) (without_attrs r)
    c.status-in-Err.result text.1 is
    (named-refused r c.args.node c.args.dir c.args.name.now c.in-Some.kind c.args.size c.args.time
    (without_attrs r) c.in-Err.refusal c.status-in-Err.result
    (subst (λ (n : List ℕ). c.in-Err.refusal
    ≡ unwrap_or (if is_name n then None else Some BadName) NoMemory) text.0
    c.in-Err.ensures.refused.1) c.status-in-Err.ensures))

pub returns-in-Ok-read : goal.returns-in-Ok-read
returns-in-Ok-read c =
    let none : c.replace-attrs.new.dest.items ≡ [] = cc in
    let is : kind_numbered c.args.kind ≡ Some c.in-Some.kind = cc in
    let its : c.replace-attrs.result.items ≡ c.args.self.now.attrs.items = cc in
    let text = c.in-Ok.ensures.cases in
    entry-pushed (restores c.args.self.now) (restores c.push.new.self) c.args.node c.args.dir
    c.args.name.now c.in-Ok-read.name c.args.kind c.in-Some.kind c.args.size c.args.time
    (to_z w64 (of_z w64 c.args.time)) c.replace-attrs.result.items c.replace-attrs.new.dest.items
    c.push.result text.1 is (c.in-Ok-read.ensures.value ∙ text.0)
    (subst (λ (n : List ℕ). (if is_name n then None else Some BadName) ≡ None)
    (sym c.in-Ok-read.ensures.value) c.in-Ok-read.ensures.refused.0) (to_z-of_z c.ranges.time) its
    none c.push.ensures
