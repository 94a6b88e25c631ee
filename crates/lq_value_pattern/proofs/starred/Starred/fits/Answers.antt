use Rattle.std.proofs.Common.{sym, drop, take, length, ◌-◌, ◌∙◌}
use Rattle.std.proofs.lemmas.Bool.Decides.{Decides-eqb}
use Rattle.std.proofs.lemmas.Slice.Eq.{bytes_eq-Decides, starts_is, ends_is}
use Rattle.std.proofs.lemmas.Str.Pattern.{contains_text, ends_text}
use Rattle.lq_value_pattern.proofs.StarredLemmas.{tells-starred}
use Rattle.lq_value_pattern.proofs.starred.Starred.fits.Goals as goal

pub returns-in-true-true : goal.returns-in-true-true
returns-in-true-true c =
    let x = c.as_str-plain.result.now in
    let t = c.args.text.now in
    tells-starred _ c.args.self.now _ x _ t c.in-true-true.is-0 c.as_str-plain.ensures.value
    c.in-true-true.is-1 c.as_str-plain.utf8 c.utf8.text
    (contains_text c.contains.result x t c.contains.ensures.cases)

pub returns-in-true-false : goal.returns-in-true-false
returns-in-true-false c =
    let x = c.as_str-plain.result.now in
    let t = c.args.text.now in
    let r = ends_text c.ends_with.result x t c.ends_with.ensures.cases in
    let is = ends_is Decides-eqb t x c.ends_with.result r in
    tells-starred _ c.args.self.now _ x _ t c.in-true-false.is-0 c.as_str-plain.ensures.value
    c.in-true-false.is-1 c.as_str-plain.utf8 c.utf8.text
    (λ e. (take (length t - length x) t, is.0 e), λ h. is.1 h.0 h.1)

pub returns-in-false-true : goal.returns-in-false-true
returns-in-false-true c =
    let x = c.as_str-plain.result.now in
    let t = c.args.text.now in
    let is = starts_is Decides-eqb t x c.begins.result c.begins.ensures in
    tells-starred _ c.args.self.now _ x _ t c.in-false-true.is-0 c.as_str-plain.ensures.value
    c.in-false-true.is-1 c.as_str-plain.utf8 c.utf8.text
    (λ e. (drop (length x) t, is.0 e), λ h. is.1 h.0 h.1)

pub returns-in-false-false : goal.returns-in-false-false
returns-in-false-false c =
    let x = c.as_str-plain.result.now in
    let t = c.args.text.now in
    let is = bytes_eq-Decides x t in
    c.eq.ensures ∙ tells-starred _ c.args.self.now _ x _ t c.in-false-false.is-0
    c.as_str-plain.ensures.value c.in-false-false.is-1 c.as_str-plain.utf8 c.utf8.text
    (λ e. sym (is.0 e), λ e. is.1 (sym e))
