-- The fields of a line's keys, and the members that they show.
use Rattle.std.proofs.Common.{◌≡◌, ◌∙◌, ℕ, List, Bool, true, false, Some, None, option_map, unwrap_or, refl, sym, ap, true≢false, bytes_eq, if◌then◌else◌}
use Rattle.std.proofs.lemmas.Slice.Eq.{bytes_eq-Decides}
use Rattle.serde_json.specs.Data.{Data, Members, array, boolean, no_members, null, number, object, put, string}
use Rattle.serde_json.specs.Find.{as_object, get, get_member}
use Rattle.serde_json.specs.Read.{read}
use Rattle.serde_json.proofs.Views.{get_member-put, get_member-put_other}
use Rattle.lq_script_request.specs.declared.key.Key.{Key}
use Rattle.lq_script_request.specs.declared.key.Key.TheVariants as key
use Rattle.lq_script_request.specs.declared.field.Field.{Field}
use Rattle.lq_script_request.specs.declared.fields.Fields.{Fields}
use Rattle.lq_script_request.specs.Shown.{data_in, json_outline}
use Rattle.lq_script_request.specs.Fields.{AreAbsent, AreLastMembers, Show, field_at, key_text, updated, whole_data}

-- a member counts for its key alone
placed : (k : List ℕ) (f : Field) (fs : Fields) (at : Key)
    → field_at (updated k f fs) at ≡ (if bytes_eq k (key_text at) then f else field_at fs at)
placed k f fs key.Do = refl
placed k f fs key.Dir = refl
placed k f fs key.Name = refl
placed k f fs key.Kind = refl
placed k f fs key.Size = refl
placed k f fs key.Time = refl
placed k f fs key.Node = refl
placed k f fs key.Attr = refl
placed k f fs key.Type = refl
placed k f fs key.Value = refl
placed k f fs key.Query = refl
placed k f fs key.Port = refl
placed k f fs key.Backlog = refl
placed k f fs key.Moved = refl
placed k f fs key.Values = refl
placed k f fs key.Slot = refl
placed k f fs key.Clobber = refl

-- what was chosen shows what is found
chosen : (k name : List ℕ) (b : Bool) (f g : Field) (d : Data) (ms : Members)
    → bytes_eq k name ≡ b → data_in f ≡ Some (json_outline d)
    → data_in g ≡ option_map json_outline (get_member name ms)
    → data_in (if b then f else g) ≡ option_map json_outline (get_member name (put k d ms))
chosen k name true f g d ms same is was =
    let equal : k ≡ name = (bytes_eq-Decides k name).0 same in
    is ∙ sym (ap (option_map json_outline) (ap (λ n. get_member n (put k d ms)) (sym equal)
    ∙ get_member-put k d ms))
chosen k name false f g d ms other is was =
    was ∙ sym (ap (option_map json_outline) (get_member-put_other name k d ms
    (λ same. true≢false (sym ((bytes_eq-Decides k name).1 (sym same)) ∙ other))))

-- the fields show the last members, one member more
pub Show-put : (k : List ℕ) (f : Field) (fields : Fields) (d : Data) (ms : Members)
    → data_in f ≡ Some (json_outline d) → Show fields (object ms)
    → Show (updated k f fields) (object (put k d ms))
Show-put k f fields d ms is were = λ at.
    ap data_in (placed k f fields at)
    ∙ chosen k (key_text at) (bytes_eq k (key_text at)) f (field_at fields at) d ms refl
    is (were at)

-- the fields of a text show its data
pub whole_data-from : (fields : Fields) (text : List ℕ) (d : Data) → fields.text.now ≡ text
    → read text ≡ Some d → read text ≡ Some (whole_data fields)
whole_data-from fields text d at is = is ∙ sym (ap (λ o. Some (unwrap_or o null)) (ap read at ∙ is))

pub AreLastMembers-from : (fields : Fields) (text : List ℕ) (d : Data) → fields.text.now ≡ text
    → read text ≡ Some d → Show fields d → AreLastMembers fields
AreLastMembers-from fields text d at is shows = λ key.
    shows key
    ∙ ap (λ o. option_map json_outline (get (key_text key) (unwrap_or o null)))
    (sym (ap read at ∙ is))

-- absent fields show an object without members
pub Show-absent : (fields : Fields) → AreAbsent fields → Show fields (object no_members)
Show-absent fields absent = λ key. ap data_in (absent key)

-- and a value that is no object
pub Show-other : (fields : Fields) (d : Data) → AreAbsent fields → None ≡ as_object d
    → Show fields d
Show-other fields null absent is = λ key. ap data_in (absent key)
Show-other fields (boolean b) absent is = λ key. ap data_in (absent key)
Show-other fields (number n) absent is = λ key. ap data_in (absent key)
Show-other fields (string s) absent is = λ key. ap data_in (absent key)
Show-other fields (array ds) absent is = λ key. ap data_in (absent key)
Show-other fields (object ms) absent is = absurd (cc)

-- a value with members is the object of them
pub object-of : (d : Data) (ms : Members) → Some ms ≡ as_object d → object ms ≡ d
object-of null ms is = absurd (cc)
object-of (boolean b) ms is = absurd (cc)
object-of (number n) ms is = absurd (cc)
object-of (string s) ms is = absurd (cc)
object-of (array ds) ms is = absurd (cc)
object-of (object found) ms is = cc
