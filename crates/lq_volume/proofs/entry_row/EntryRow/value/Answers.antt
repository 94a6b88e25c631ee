use Rattle.std.proofs.Common.{◌≡◌, ◌∙◌, rules, sym, true, false}
use Rattle.std.specs.Str.{bytes_eq}
use Rattle.lq_volume.specs.EntryRow.{record_before}
use Rattle.lq_volume.proofs.entry_row.EntryRow.value.Goals as goal
use Rattle.lq_volume.proofs.entry_row.EntryRow.value.Goals.{in-Some+in-SetAttr+else-same_text, in-Some+in-RemoveAttr+else-same_text-2, in-Some+in-Remove-1, in-Some+in-Move-1, in-Some+in-Write-1, in_default}

pub returns-then-same_text : goal.returns-then-same_text
returns-then-same_text c =
    let same : bytes_eq c.args.asked.now c.in-SetAttr.attr ≡ true = rw
    (← c.as_str.ensures.value, ← c.as_str-in-SetAttr.ensures.value)
    (sym c.same_text.ensures ∙ c.if-same_text.true) in
    let is = rw same at (c.values_are_found.ensures.set
    (record_before c.self.inside.stored).attrs c.in-SetAttr.attr c.args.asked.now
    c.in-SetAttr.value) in
    rw (← c.self.view_is, c.in-Some.is, c.in-SetAttr.is) (sym is)

pub returns-then-same_text-2 : goal.returns-then-same_text-2
returns-then-same_text-2 c =
    let same : bytes_eq c.args.asked.now c.in-RemoveAttr.attr ≡ true = rw
    (← c.as_str-in-RemoveAttr.ensures.value, ← c.as_str-in-RemoveAttr-2.ensures.value)
    (sym c.same_text-in-RemoveAttr.ensures ∙ c.if-same_text-2.true) in
    let is = rw same at (c.values_are_found.ensures.removed
    (record_before c.self.inside.stored).attrs c.in-RemoveAttr.attr c.args.asked.now) in
    rw (← c.self.view_is, c.in-Some.is, c.in-RemoveAttr.is) (sym is)

-- the record's own value, where the change says nothing of the attribute
pub returns : goal.returns
returns c = elim c.match-self.branch [
  | in-Some+in-SetAttr+else-same_text w ↦
      let differs : bytes_eq c.args.asked.now w.in-SetAttr.attr ≡ false = rw
      (← w.as_str.ensures.value, ← w.as_str-in-SetAttr.ensures.value)
      (sym w.same_text.ensures ∙ w.if-same_text.false) in
      let is = rw differs at (c.values_are_found.ensures.set
      c.record_of.result.now.attrs w.in-SetAttr.attr c.args.asked.now w.in-SetAttr.value) in
      rw (← c.self.view_is, w.in-Some.is, w.in-SetAttr.is)
      (c.get.ensures ∙ rw (c.attrs.ensures, c.record_of.ensures) (sym is))
  | in-Some+in-RemoveAttr+else-same_text-2 w ↦
      let differs : bytes_eq c.args.asked.now w.in-RemoveAttr.attr ≡ false = rw
      (← w.as_str-in-RemoveAttr.ensures.value, ← w.as_str-in-RemoveAttr-2.ensures.value)
      (sym w.same_text-in-RemoveAttr.ensures ∙ w.if-same_text-2.false) in
      let is = rw differs at (c.values_are_found.ensures.removed
      c.record_of.result.now.attrs w.in-RemoveAttr.attr c.args.asked.now) in
      rw (← c.self.view_is, w.in-Some.is, w.in-RemoveAttr.is)
      (c.get.ensures ∙ rw (c.attrs.ensures, c.record_of.ensures) (sym is))
  | in-Some+in-Remove-1 w ↦ search rules
  | in-Some+in-Move-1 w ↦ search rules
  | in-Some+in-Write-1 w ↦ search rules
  | in_default w ↦ search rules
]
