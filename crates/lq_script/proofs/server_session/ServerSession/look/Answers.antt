-- A look finds what the volume of the script's world has.
use Rattle.std.proofs.Common.{rules, ◌≡◌, Err}
use Rattle.lq_script.proofs.AnswerLemmas.{answers_entry, answers_fetch, answers_find, entry_refused, fetch_refused, find_refused}
use Rattle.lq_script.proofs.server_session.ServerSession.look.Goals as goal

pub returns-in_err-node-in-Find-clause-refused : goal.returns-in_err-node-in-Find-clause-refused
returns-in_err-node-in-Find-clause-refused g c =
    let e = c.in_err-node-in-Find.field-0.0 in
    let is : c.from_residual.result ≡ Err e = search rules in
    rw (is, c.in-Find.is) (find_refused _ _ _ _ e c.in_err-node-in-Find.ensures.made
    c.in_err-node-in-Find.ensures.err)

pub returns-in_ok-node-in-Find-clause-replied : goal.returns-in_ok-node-in-Find-clause-replied
returns-in_ok-node-in-Find-clause-replied g c =
    rw c.in-Find.is (answers_find _ _ _ _ _ c.in_ok-node-in-Find.ensures.made
    c.in_ok-node-in-Find.ensures.value c.in_ok-node-in-Find.ensures.ok)

pub returns-in_err-listing-in-Entry-clause-refused :
    goal.returns-in_err-listing-in-Entry-clause-refused
returns-in_err-listing-in-Entry-clause-refused g c =
    let e = c.in_err-listing-in-Entry.field-0.0 in
    let is : c.from_residual-in_err-listing-in-Entry.result ≡ Err e = search rules in
    rw (is, c.in-Entry.is) (entry_refused _ _ c.in-Entry.node e
    c.in_err-listing-in-Entry.ensures.made c.in_err-listing-in-Entry.ensures.refused.1)

pub returns-in_ok-listing-in-Entry-clause-replied :
    goal.returns-in_ok-listing-in-Entry-clause-replied
returns-in_ok-listing-in-Entry-clause-replied g c =
    rw c.in-Entry.is (answers_entry _ _ c.in-Entry.node _
    c.in_ok-listing-in-Entry.ensures.made c.in_ok-listing-in-Entry.ensures.value
    c.in_ok-listing-in-Entry.ensures.refused.0)

pub returns-in_err-found-in-Fetch-clause-refused :
    goal.returns-in_err-found-in-Fetch-clause-refused
returns-in_err-found-in-Fetch-clause-refused g c =
    let e = c.in_err-found-in-Fetch.field-0.0 in
    let is : c.from_residual-in_err-found-in-Fetch.result ≡ Err e = search rules in
    rw (is, c.in-Fetch.is) (fetch_refused _ _ _ e c.in_err-found-in-Fetch.ensures.made
    c.in_err-found-in-Fetch.ensures.refused.1)

pub returns-in_ok-found-in-Fetch-clause-replied : goal.returns-in_ok-found-in-Fetch-clause-replied
returns-in_ok-found-in-Fetch-clause-replied g c =
    rw c.in-Fetch.is (answers_fetch c.changes_are_counted.ensures _ _ _ _ _
    c.in_ok-found-in-Fetch.ensures.made c.in_ok-found-in-Fetch.ensures.at
    c.in_ok-found-in-Fetch.ensures.entries)
