-- The names of a path, and the entry that they lead to.
use Rattle.std.specs.Prelude.{◌≡◌, ◌≢◌, ◌⊎◌, ◌==◌, ℕ, suc, List, [], ◌∷◌, ◌++◌, length, nat_lt, Result, Err, if◌then◌else◌}
use Rattle.lq_value.specs.declared.refusal.Refusal.{Refusal}
use Rattle.lq_value.specs.declared.refusal.Refusal.TheVariants.{BadName}
use Rattle.lq_volume.specs.Folder.{Leads}
use Rattle.lq_script_request.specs.declared.request.Request.{Request}
use Rattle.lq_embed.specs.Calls.{FindsNode}
use Rattle.lq_embed.specs.Requests.{find_request}
use Rattle.lq_embed.specs.SessionState.{SessionState, volume_in}

-- what stands between the `/` of a path, before the first and after the last
abbrev pub with_byte : ℕ → List (List ℕ) → List (List ℕ)
with_byte byte [] = (byte ∷ []) ∷ []
with_byte byte (part ∷ parts) = (byte ∷ part) ∷ parts

abbrev pub path_parts : List ℕ → List (List ℕ)
path_parts [] = [] ∷ []
path_parts (byte ∷ bytes) =
    if byte == 47 then [] ∷ path_parts bytes else with_byte byte (path_parts bytes)

-- the parts that aren't empty
abbrev pub names_among : List (List ℕ) → List (List ℕ)
names_among [] = []
names_among ([] ∷ parts) = names_among parts
names_among ((byte ∷ part) ∷ parts) = (byte ∷ part) ∷ names_among parts

abbrev pub names_in : List ℕ → List (List ℕ)
names_in path = names_among (path_parts path)

-- how many bytes stand before the first `/`
abbrev pub name_length : List ℕ → ℕ
name_length [] = 0
name_length (byte ∷ bytes) = if byte == 47 then 0 else suc (name_length bytes)

-- the request for a name of a path, whose size is tested before its bytes
abbrev pub named_request : ℕ → List ℕ → Result Request Refusal
named_request dir name = if nat_lt 255 (length name) then Err BadName else find_request dir name

-- the names lead to the node, folder by folder
pub record IsFoundAt (old new : SessionState) (dir : ℕ) (path : List ℕ) (status after : ℕ) :
    Type 0 where
  pub leads : Leads (volume_in old).records dir (names_in path) after
  pub code : status ≡ 0
  pub stays : new ≡ old

-- the names before one lead to a node, and the look-up of that one there is refused
pub record IsLostAt (old new : SessionState) (dir : ℕ) (path : List ℕ) (status before after : ℕ)
    : Type 0 where
  pub names : List (List ℕ)
  pub name : List ℕ
  pub rest : List (List ℕ)
  pub split : names_in path ≡ names ++ (name ∷ rest)
  pub folder : ℕ
  pub leads : Leads (volume_in old).records dir names folder
  pub found : ℕ
  pub finds : FindsNode old new (named_request folder name) status 0 found
  pub code : status ≢ 0
  pub out : after ≡ before

abbrev pub FindsPath : SessionState → SessionState → ℕ → List ℕ → ℕ → ℕ → ℕ → Type 0
FindsPath old new dir path status before after =
    IsFoundAt old new dir path status after ⊎ IsLostAt old new dir path status before after
