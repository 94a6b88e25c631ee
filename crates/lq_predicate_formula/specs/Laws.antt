-- Laws on readings and on the truth of queries.
use Rattle.std.specs.Prelude.{◌≡◌, ℕ, List, Ok, ◌⊎◌, None, length, true, false}
use Rattle.lq_predicate_formula.specs.Query.{Query, And, Or, Queries, and_then}
use Rattle.lq_predicate_formula.specs.Faults.{IsReading, Reads}
use Rattle.lq_predicate_formula.specs.MachineReading.{machine_reading}
use Rattle.lq_predicate_formula.specs.Canonical.{canonical}
use Rattle.lq_predicate_formula.specs.Limits.{IsGoodPattern, IsProper, IsWithinLimits}
use Rattle.lq_predicate_formula.specs.Words.{WordsAre}
use Rattle.lq_predicate_formula.specs.Tokens.{HasTokens, Placed, bare}
use Rattle.lq_value.specs.Element.{Element}
use Rattle.lq_value.specs.Source.{pattern_of}
use Rattle.std.specs.Str.{IsUtf8, bytes_eq}
use Rattle.std.specs.List.{list_any}
use Rattle.lq_value.specs.declared.attr_field.Field.TheVariants.{Attribute}
use Rattle.lq_value.specs.Field.{field_of}
use Rattle.lq_predicate_formula.specs.Names.{names_of}
use Rattle.lq_predicate_formula.specs.Needs.{needs_attribute}
use Rattle.lq_predicate_formula.specs.Size.{parts_size}
use Rattle.lq_predicate_formula.specs.Span.{StaysBeside, span_of}
use Rattle.lq_predicate_formula.specs.Truth.{Look, truth}

-- the canonical text of a query within the limits reads as that query
abbrev pub CanonicalIsRead : Type 0
CanonicalIsRead = (q : Query) → IsWithinLimits q → Reads (canonical q) q

-- the canonical text of a query that was read from UTF-8 words can be read
abbrev pub ReadIsGood : Type 0
ReadIsGood = (text : List ℕ) (q : Query) (ts : List Placed) → Reads text q
    → HasTokens 0 text ts → WordsAre IsUtf8 (bare ts) → IsProper q

-- what the machine makes of a text's tokens is a reading of the text
abbrev pub MachineReads : Type 0
MachineReads = (text : List ℕ) (ts : List Placed) → HasTokens 0 text ts
    → IsReading text (machine_reading text ts)

-- a pattern that was read from a UTF-8 text consists of characters, its sets have items, and no
-- range ends below its start
abbrev pub PatternsAreGood : Type 0
PatternsAreGood =
    (text : List ℕ) (es : List Element) → IsUtf8 text → pattern_of text ≡ Ok es → IsGoodPattern es

-- the truth of a predicate depends only on what a row shows under these names
abbrev pub GoesBy : List (List ℕ) → Query → Type 0
GoesBy names q = (look other : Look)
    → ((name : List ℕ) → list_any (bytes_eq name) names ≡ true → look name ≡ other name)
    → truth q look ≡ truth q other

-- it depends only on what a row shows under the names of the predicate's attributes
abbrev pub TruthGoesByNames : Type 0
TruthGoesByNames = (q : Query) → GoesBy (names_of q) q

-- it is the same for two rows if each name shows the same in both, or numbers on the same side of
-- all numbers that the predicate compares the name with
abbrev pub TruthStaysBesideSpans : Type 0
TruthStaysBesideSpans = (q : Query) (look now : Look)
    → ((name : List ℕ) →
    (look name ≡ now name) ⊎ StaysBeside (span_of name q) (look name) (now name))
    → truth q look ≡ truth q now

-- a predicate that needs an attribute is false of a row that shows nothing under any name but those
-- of the three fields
abbrev pub BareRowsFail : Type 0
BareRowsFail = (q : Query) (look : Look) → needs_attribute q ≡ true
    → ((name : List ℕ) → field_of name ≡ Attribute → look name ≡ None) → truth q look ≡ false

-- the text of an And or an Or of one part or more is as long as its parts, and two for each
abbrev pub JoinedTextsAdd : Type 0
JoinedTextsAdd = (q : Query) (others : Queries) → let parts = and_then q others in
    (length (canonical (And parts)) ≡ parts_size parts)
    × (length (canonical (Or parts)) ≡ parts_size parts)
