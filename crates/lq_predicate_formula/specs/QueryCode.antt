-- How the logic stores a query.
use Rattle.std.proofs.Common.{◌≡◌, ◌≢◌, ℕ, refl, ap, arith}
use Rattle.std.specs.Coded.{Coded, coded_list, coded_ℕ}
use base.Stored.{Gv, gnil, gnum, gcons}
use Rattle.lq_value.specs.contracts.literal.Literal as literal
use Rattle.lq_value.specs.contracts.op.Op as op
use Rattle.lq_predicate_formula.specs.Query.{Query, Compare, Not, And, Or, Queries, no_more, and_then}

abbrev head : Gv → Gv
head gnil = gnil
head (gnum n) = gnil
head (gcons a b) = a

abbrev tail : Gv → Gv
tail gnil = gnil
tail (gnum n) = gnil
tail (gcons a b) = b

-- codes that begin with different numbers are different
apart : (m n : ℕ) {a b : Gv} → gcons (gnum m) a ≡ gcons (gnum n) b → m ≢ n → ⊥
apart m n p other = other (cc)

abbrev mutual
  -- a query as a tree of numbers: a number for its form, and its parts
  pub query_code : Query → Gv
  query_code (Compare a o l) = gcons (gnum 0) (gcons ((coded_list coded_ℕ).code a)
      (gcons (op.the_row.coded.code o) (literal.the_row.coded.code l)))
  query_code (Not q) = gcons (gnum 1) (query_code q)
  query_code (And qs) = gcons (gnum 2) (queries_code qs)
  query_code (Or qs) = gcons (gnum 3) (queries_code qs)

  -- some queries as a tree of numbers
  pub queries_code : Queries → Gv
  queries_code no_more = gcons (gnum 0) gnil
  queries_code (and_then q qs) = gcons (gnum 1) (gcons (query_code q) (queries_code qs))

mutual
  -- queries with the same code are the same
  pub query_inj : (x y : Query) → query_code x ≡ query_code y → x ≡ y
  query_inj (Compare a o l) (Compare b r m) p = λ i.
      Compare ((coded_list coded_ℕ).inj a b (ap (λ g. head (tail g)) p) i)
      (op.the_row.coded.inj o r (ap (λ g. head (tail (tail g))) p) i)
      (literal.the_row.coded.inj l m (ap (λ g. tail (tail (tail g))) p) i)
  query_inj (Compare a o l) (Not r) p = absurd (apart 0 1 p (omega arith))
  query_inj (Compare a o l) (And rs) p = absurd (apart 0 2 p (omega arith))
  query_inj (Compare a o l) (Or rs) p = absurd (apart 0 3 p (omega arith))
  query_inj (Not q) (Compare b r m) p = absurd (apart 1 0 p (omega arith))
  query_inj (Not q) (Not r) p = λ i. Not (query_inj q r (ap (λ g. tail g) p) i)
  query_inj (Not q) (And rs) p = absurd (apart 1 2 p (omega arith))
  query_inj (Not q) (Or rs) p = absurd (apart 1 3 p (omega arith))
  query_inj (And qs) (Compare b r m) p = absurd (apart 2 0 p (omega arith))
  query_inj (And qs) (Not r) p = absurd (apart 2 1 p (omega arith))
  query_inj (And qs) (And rs) p = λ i. And (queries_inj qs rs (ap (λ g. tail g) p) i)
  query_inj (And qs) (Or rs) p = absurd (apart 2 3 p (omega arith))
  query_inj (Or qs) (Compare b r m) p = absurd (apart 3 0 p (omega arith))
  query_inj (Or qs) (Not r) p = absurd (apart 3 1 p (omega arith))
  query_inj (Or qs) (And rs) p = absurd (apart 3 2 p (omega arith))
  query_inj (Or qs) (Or rs) p = λ i. Or (queries_inj qs rs (ap (λ g. tail g) p) i)

  -- lists of queries with the same code are the same
  pub queries_inj : (x y : Queries) → queries_code x ≡ queries_code y → x ≡ y
  queries_inj no_more no_more p = refl
  queries_inj no_more (and_then r rs) p = absurd (apart 0 1 p (omega arith))
  queries_inj (and_then q qs) no_more p = absurd (apart 1 0 p (omega arith))
  queries_inj (and_then q qs) (and_then r rs) p = λ i.
      and_then (query_inj q r (ap (λ g. head (tail g)) p) i)
      (queries_inj qs rs (ap (λ g. tail (tail g)) p) i)

abbrev pub coded_query : Coded Query
coded_query = record { code = query_code; inj = query_inj }
