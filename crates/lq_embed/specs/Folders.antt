-- A folder's entries and a node's path, as calls give them.
use Rattle.std.specs.Prelude.{◌≡◌, ℕ, List, [], ◌∷◌, ◌++◌, length, Result, Ok, Err, IfOk}
use Rattle.lq_value.specs.declared.entry.Entry.{Entry}
use Rattle.lq_value.specs.declared.refusal.Refusal.{Refusal}
use Rattle.lq_value.specs.Refusal.{IsRefusedBy, first_refusal}
use Rattle.lq_volume.specs.Folder.{AreChildren, Leads}
use Rattle.lq_volume.specs.Lookup.{children_refusals, path_refusals}
use Rattle.lq_volume.specs.State.{root}
use Rattle.lq_embed.specs.SessionState.{SessionState, volume_in, with_entries, with_text}
use Rattle.lq_embed.specs.Status.{outcome_status}

-- each name with `/` before it
abbrev pub joined : List (List ℕ) → List ℕ
joined [] = []
joined (name ∷ names) = 47 ∷ name ++ joined names

-- the text of a path; the root's is `/`
abbrev pub path_text : List (List ℕ) → List ℕ
path_text [] = 47 ∷ []
path_text (name ∷ names) = joined (name ∷ names)

-- the size of what was found, and the thing itself, unless the call was refused
abbrev pub size_after : {T : Type 0} → Result (List T) Refusal → ℕ → ℕ
size_after (Ok found) size = length found
size_after (Err refusal) size = size

abbrev pub found_or : {T : Type 0} → Result (List T) Refusal → List T → List T
found_or (Ok found) before = found
found_or (Err refusal) before = before

-- the entries in a folder, which are to be given
pub record Lists (old new : SessionState) (dir status before after : ℕ) : Type 0 where
  pub outcome : Result (List Entry) Refusal
  pub refused : IsRefusedBy outcome (first_refusal (children_refusals (volume_in old) dir))
  pub children : IfOk outcome (λ entries. AreChildren (volume_in old).records dir entries)
  pub code : status ≡ outcome_status outcome
  pub out : after ≡ size_after outcome before
  pub entries : new ≡ with_entries old (found_or outcome old.entries)

-- the text is that of names which lead from the root to the node
pub record IsPathText (s : SessionState) (node : ℕ) (written : List ℕ) : Type 0 where
  pub names : List (List ℕ)
  pub leads : Leads (volume_in s).records root names node
  pub text : written ≡ path_text names

-- the path of a node, which is the text then
pub record Paths (old new : SessionState) (node status before after : ℕ) : Type 0 where
  pub outcome : Result (List ℕ) Refusal
  pub refused : IsRefusedBy outcome (first_refusal (path_refusals (volume_in old) node))
  pub path : IfOk outcome (λ text. IsPathText old node text)
  pub code : status ≡ outcome_status outcome
  pub out : after ≡ size_after outcome before
  pub kept : new ≡ with_text old (found_or outcome old.text)
