-- A folder's entries and a path, from what the volume answers.
use Rattle.std.proofs.Common.{◌≡◌, ℕ, List, subst}
use Rattle.std.specs.Prelude.{Result, Ok, Err, IfOk}
use Rattle.lq_value.specs.declared.entry.Entry.{Entry}
use Rattle.lq_value.specs.declared.refusal.Refusal.{Refusal}
use Rattle.lq_value.specs.Refusal.{IsRefusedBy, first_refusal}
use Rattle.lq_volume.specs.State as volume
use Rattle.lq_volume.specs.Folder.{AreChildren, Leads}
use Rattle.lq_volume.specs.State.{root}
use Rattle.lq_volume.specs.Lookup.{children_refusals, path_refusals}
use Rattle.lq_embed.specs.Folders.{IsPathText, Lists, Paths, found_or, path_text, size_after}
use Rattle.lq_embed.specs.SessionState.{SessionState, volume_in, with_entries, with_text}
use Rattle.lq_embed.specs.Status.{outcome_status}

pub lists-made : {old new : SessionState} {dir status before after : ℕ} (s : volume.State)
    (outcome : Result (List Entry) Refusal) → s ≡ volume_in old
    → IsRefusedBy outcome (first_refusal (children_refusals s dir))
    → IfOk outcome (λ entries. AreChildren s.records dir entries)
    → status ≡ outcome_status outcome → after ≡ size_after outcome before
    → new ≡ with_entries old (found_or outcome old.entries)
    → Lists old new dir status before after
lists-made {dir = dir} s outcome same refused children code out entries = record {
  outcome = outcome;
  refused = subst (λ (v : volume.State). IsRefusedBy outcome
      (first_refusal (children_refusals v dir))) same refused;
  children = subst (λ (v : volume.State). IfOk outcome
      (λ entries. AreChildren v.records dir entries)) same children;
  code = code;
  out = out;
  entries = entries;
}

pub paths-made : {old new : SessionState} {node status before after : ℕ} (s : volume.State)
    (outcome : Result (List ℕ) Refusal) → s ≡ volume_in old
    → IsRefusedBy outcome (first_refusal (path_refusals s node))
    → IfOk outcome (λ text. (names : List (List ℕ)) × (Leads s.records root names node
    × (text ≡ path_text names)))
    → status ≡ outcome_status outcome → after ≡ size_after outcome before
    → new ≡ with_text old (found_or outcome old.text)
    → Paths old new node status before after
paths-made {old = old} {node = node} s outcome same refused path code out kept = record {
  outcome = outcome;
  refused = subst (λ (v : volume.State). IsRefusedBy outcome
      (first_refusal (path_refusals v node))) same refused;
  path = at outcome path;
  code = code;
  out = out;
  kept = kept;
}
  where
    at : (o : Result (List ℕ) Refusal) → IfOk o (λ text. (names : List (List ℕ))
        × (Leads s.records root names node × (text ≡ path_text names)))
        → IfOk o (λ text. IsPathText old node text)
    at (Ok text) p = record {
      names = p.0;
      leads = subst (λ (v : volume.State). Leads v.records root p.0 node) same p.1.0;
      text = p.1.1;
    }
    at (Err e) p = tt
