-- A loop over the names of a path.
use Rattle.std.proofs.Common.{◌≡◌, ◌≢◌, ◌∙◌, ◌+◌, ◌<◌, ◌≤◌, ℕ, zero, suc, List, [], ◌∷◌, ◌++◌, length, take, drop, refl, sym, ap, subst, arith, true, false, inl, inr}
use Rattle.std.specs.Prelude.{Bool, ◌==◌, Option, Some, None, Ok, Err, nat_lt, if◌then◌else◌}
use Rattle.std.specs.Str.{is_utf8}
use Rattle.std.proofs.lemmas.List.{append_assoc}
use Rattle.lq_value.specs.declared.refusal.Refusal.{Refusal}
use Rattle.lq_value.specs.declared.refusal.Refusal.TheVariants.{BadName, NoNode, NotFolder, NoEntry, Exists, WouldLoop, NotEmpty, KindClash, IsFolder, NoAttr, Reserved, TooLong, Exhausted, NoMemory, BadQuery, BadPort, BadBacklog, NoSlot, NoSeat, NotOpen, StillOpen, LongLine, NotUtf8, NotJson, BadLine, OutOfStep, Mismatch}
use Rattle.lq_value.specs.Name.{is_name}
use Rattle.lq_value.specs.Refusal.{code_of, first_refusal}
use Rattle.lq_volume.specs.Folder.{Leads}
use Rattle.lq_volume.specs.Lookup.{find_refusals}
use Rattle.lq_volume.specs.State.{Record, node_in}
use Rattle.lq_script_request.specs.declared.request.Request.TheVariants.{Look}
use Rattle.lq_script_request.specs.declared.request.Look.TheVariants.{Find}
use Rattle.lq_script_desk.specs.Answered.{Responds, line_outcome, found_answer}
use Rattle.lq_script_desk.specs.Response.{Response, Refuses, Found}
use Rattle.lq_embed.proofs.CallLemmas.{finds-as}
use Rattle.lq_embed.specs.Calls.{FindsNode}
use Rattle.lq_embed.specs.Outs.{node_after}
use Rattle.lq_embed.specs.PathNames.{name_length, named_request, names_among, names_in, path_parts, with_byte}
use Rattle.lq_embed.specs.SessionState.{SessionState, volume_in}
use Rattle.lq_embed.specs.Status.{response_status}

-- ---- the names

-- a name, if it isn't empty
abbrev pub named : List ℕ → List (List ℕ)
named [] = []
named (byte ∷ bytes) = (byte ∷ bytes) ∷ []

among-first : (part : List ℕ) (parts : List (List ℕ))
    → names_among (part ∷ parts) ≡ named part ++ names_among parts
among-first [] parts = refl
among-first (byte ∷ bytes) parts = refl

-- the parts of a path: what stands before the first `/`, and the parts after it
pub record IsCut (path : List ℕ) (parts : List (List ℕ)) (size : ℕ) : Type 0 where
  pub rest : List (List ℕ)
  pub first : parts ≡ take size path ∷ rest
  pub after : names_among rest ≡ names_in (drop (suc size) path)

cut-more : (byte : ℕ) (bytes : List ℕ) (slash : Bool)
    → IsCut bytes (path_parts bytes) (name_length bytes)
    → IsCut (byte ∷ bytes)
    (if slash then [] ∷ path_parts bytes else with_byte byte (path_parts bytes))
    (if slash then 0 else suc (name_length bytes))
cut-more byte bytes true was = record { rest = path_parts bytes; first = refl; after = refl }
cut-more byte bytes false was = record {
  rest = was.rest;
  first = ap (with_byte byte) was.first;
  after = was.after;
}

cut : (path : List ℕ) → IsCut path (path_parts path) (name_length path)
cut [] = record { rest = []; first = refl; after = refl }
cut (byte ∷ bytes) = cut-more byte bytes (byte == 47) (cut bytes)

names-cut : (path : List ℕ) → names_in path
    ≡ named (take (name_length path) path) ++ names_in (drop (suc (name_length path)) path)
names-cut path =
    let c = cut path in
    ap names_among c.first
    ∙ (among-first (take (name_length path) path) c.rest
    ∙ ap (λ names. named (take (name_length path) path) ++ names) c.after)

-- what was taken is a name, unless nothing was
named-some : (size : ℕ) (path : List ℕ) → 0 < size → size ≤ length path
    → named (take size path) ≡ take size path ∷ []
named-some zero path lt le = absurd (omega arith)
named-some (suc size) [] lt le = absurd (omega arith)
named-some (suc size) (byte ∷ bytes) lt le = refl

-- ---- the way

leads-more : (es : List (ℕ × Record)) (from : ℕ) (names : List (List ℕ)) (mid : ℕ) (name : List ℕ)
    (to : ℕ) → Leads es from names mid → node_in es mid name ≡ Some to
    → Leads es from (names ++ (name ∷ [])) to
leads-more es from [] mid name to way there =
    (to, subst (λ (n : ℕ). node_in es n name ≡ Some to) (sym way) there, refl)
leads-more es from (first ∷ names) mid name to way there =
    (way.0, way.1, leads-more es way.0 names mid name to way.2 there)

-- how far the loop has come: the names before the rest lead to a node
pub record IsOnWay (es : List (ℕ × Record)) (dir : ℕ) (path rest : List ℕ) (at : ℕ)
    : Type 0 where
  pub names : List (List ℕ)
  pub split : names_in path ≡ names ++ names_in rest
  pub leads : Leads es dir names at

-- past a `/` with no name before it
pub way-past : {es : List (ℕ × Record)} {dir : ℕ} {path rest : List ℕ} {at : ℕ} (size : ℕ)
    → IsOnWay es dir path rest at → size ≡ name_length rest → size ≡ 0
    → IsOnWay es dir path (drop (size + 1) rest) at
way-past {rest = rest} size was is none = record {
  names = was.names;
  split = was.split ∙ ap (λ names. was.names ++ names)
      (names-cut rest ∙ (ap (λ n. named (take n rest) ++ names_in (drop (suc n) rest))
      (sym is ∙ none)
      ∙ ap (λ n. names_in (drop n rest)) (let e : 1 ≡ size + 1 = omega arith in e)));
  leads = was.leads;
}

-- the names before the next, that one, and those after it
pub way-split : {es : List (ℕ × Record)} {dir : ℕ} {path rest : List ℕ} {at : ℕ} (size : ℕ)
    (was : IsOnWay es dir path rest at) → size ≡ name_length rest → 0 < size
    → size ≤ length rest
    → names_in path ≡ was.names ++ (take size rest ∷ names_in (drop (size + 1) rest))
way-split {rest = rest} size was is lt le =
    was.split ∙ ap (λ names. was.names ++ names)
    (names-cut rest ∙ (ap (λ n. named (take n rest) ++ names_in (drop (suc n) rest)) (sym is)
    ∙ (ap (λ names. names ++ names_in (drop (suc size) rest)) (named-some size rest lt le)
    ∙ ap (λ n. take size rest ∷ names_in (drop n rest)) (let e : suc size ≡ size + 1 = omega arith
    in e))))

-- past a name that leads on
pub way-next : {es : List (ℕ × Record)} {dir : ℕ} {path rest : List ℕ} {at next : ℕ} (size : ℕ)
    → IsOnWay es dir path rest at → size ≡ name_length rest → 0 < size → size ≤ length rest
    → node_in es at (take size rest) ≡ Some next
    → IsOnWay es dir path (drop (size + 1) rest) next
way-next {es = es} {dir = dir} {rest = rest} {at = at} {next = next} size was is lt le there =
    record {
      names = was.names ++ (take size rest ∷ []);
      split = way-split size was is lt le
          ∙ sym (append_assoc was.names (take size rest ∷ []) (names_in (drop (size + 1) rest)));
      leads = leads-more es dir was.names at (take size rest) next was.leads there;
    }

-- ---- a look-up that isn't refused

no : (n : ℕ) → suc n ≢ 0
no n is = absurd (omega arith)

coded : (e : Refusal) → code_of e ≢ 0
coded BadName = no 0
coded NoNode = no 1
coded NotFolder = no 2
coded NoEntry = no 3
coded Exists = no 4
coded WouldLoop = no 5
coded NotEmpty = no 6
coded KindClash = no 7
coded IsFolder = no 8
coded NoAttr = no 9
coded Reserved = no 10
coded TooLong = no 11
coded Exhausted = no 12
coded NoMemory = no 14
coded (BadQuery offset) = no 19
coded BadPort = no 20
coded BadBacklog = no 21
coded NoSlot = no 22
coded NoSeat = no 23
coded NotOpen = no 24
coded StillOpen = no 25
coded LongLine = no 29
coded NotUtf8 = no 30
coded NotJson = no 31
coded BadLine = no 32
coded OutOfStep = no 33
coded Mismatch = no 34

-- a response that has no refusal is the node at the place
abbrev IsThere : Response → List (ℕ × Record) → ℕ → List ℕ → Type 0
IsThere response es dir name =
    response_status response ≡ 0
    → (node : ℕ) × (response ≡ Found node) × (node_in es dir name ≡ Some node)

there-found : (es : List (ℕ × Record)) (dir : ℕ) (name : List ℕ) (refusal : Option Refusal)
    (at : Option ℕ) → node_in es dir name ≡ at
    → IsThere (found_answer refusal NoEntry Found at) es dir name
there-found es dir name (Some e) at is ok = absurd (coded e ok)
there-found es dir name None None is ok = absurd (coded NoEntry ok)
there-found es dir name None (Some node) is ok = (node, refl, is)

there-refused : (es : List (ℕ × Record)) (dir : ℕ) (name : List ℕ) (e : Refusal)
    → IsThere (Refuses e) es dir name
there-refused es dir name e ok = absurd (coded e ok)

-- the response to the request of a name, whatever the tests of its bytes give
named-there : (old : SessionState) (dir : ℕ) (name : List ℕ) (long utf8 valid : Bool)
    → IsThere (line_outcome old.session (if long then Err BadName
    else (if utf8 then (if valid then Ok (Look (Find dir name)) else Err BadName)
    else Err NotUtf8))).0
    (volume_in old).records dir name
named-there old dir name true utf8 valid =
    there-refused (volume_in old).records dir name BadName
named-there old dir name false false valid =
    there-refused (volume_in old).records dir name NotUtf8
named-there old dir name false true false =
    there-refused (volume_in old).records dir name BadName
named-there old dir name false true true = there-found (volume_in old).records dir name
    (first_refusal (find_refusals (volume_in old) dir name))
    (node_in (volume_in old).records dir name) refl

pub found-node : {old new : SessionState} {status before after : ℕ} (dir : ℕ) (name : List ℕ)
    → FindsNode old new (named_request dir name) status before after → status ≡ 0
    → node_in (volume_in old).records dir name ≡ Some after
found-node {old = old} {before = before} {after = after} dir name finds ok =
    from (at finds.responds (sym finds.code ∙ ok))
  where
    at : Responds old.session (named_request dir name) finds.response
        → IsThere finds.response (volume_in old).records dir name
    at (inl is) = subst (λ (r : Response). IsThere r (volume_in old).records dir name) (sym is)
        (there-refused (volume_in old).records dir name NoMemory)
    at (inr is) = subst (λ (r : Response). IsThere r (volume_in old).records dir name) (sym is)
        (named-there old dir name (nat_lt 255 (length name)) (is_utf8 name) (is_name name))

    from : (node : ℕ) × (finds.response ≡ Found node)
        × (node_in (volume_in old).records dir name ≡ Some node)
        → node_in (volume_in old).records dir name ≡ Some after
    from there = there.2 ∙ ap (λ (n : ℕ). Some n)
        (sym (finds.out ∙ ap (λ (r : Response). node_after r before) there.1))

-- a name that is too long is refused unread
pub finds-long : {old : SessionState} {status before : ℕ} (dir : ℕ) (name : List ℕ)
    → nat_lt 255 (length name) ≡ true → status ≡ code_of BadName
    → FindsNode old old (named_request dir name) status before before
finds-long dir name long code = finds-as {p = Err BadName} (rw long refl) (record {
  response = Refuses BadName;
  responds = inr refl;
  code = code;
  out = refl;
  stays = refl;
})
