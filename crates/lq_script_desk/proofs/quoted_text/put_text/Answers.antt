use Rattle.std.proofs.Common.{◌∷◌, []}
use Rattle.lq_script_desk.proofs.EscapeLemmas.{escape_parts, escape_whole, first_escaped, put_last, put_on}
use Rattle.lq_script_desk.proofs.Joining.{appends_after}
use Rattle.lq_script_desk.proofs.quoted_text.put_text.Goals as goal

pub returns-in_default-clause-ok : goal.returns-in_default-clause-ok
returns-in_default-clause-ok c =
    let whole = escape_whole c.loop-out.rest.now c.split_at.result.0.now c.split_at.result.1.now
    c.plain_len.result c.plain_len.ensures.value c.split_at.ensures.front c.split_at.ensures.back
    c.in_default.len_below in
    put_last _ _ _ _ _ (34 ∷ []) _ c.in_ok-extend_from_slice-2.ensures.items
    c.in_ok-push-2.ensures.items whole c.loop-out.invariant.whole

pub put_escape-requires : goal.put_escape-requires
put_escape-requires c = first_escaped c.loop-out.rest.now c.split_at.result.1.now c.plain_len.result
    c.plain_len.ensures.value c.split_at.ensures.back c.in-len1-up.len_at_least

pub loop-out-preserved : goal.loop-out-preserved
loop-out-preserved c =
    let xs = c.loop-out.rest.now in
    let run = c.split_at.result.0.now in
    let stop = c.split_at.result.1.now in
    let parts = escape_parts xs run stop c.plain_len.result c.plain_len.ensures.value
    c.split_at.ensures.front c.split_at.ensures.back c.in-len1-up.len_at_least in
    record {
      whole = put_on _ _ _ _ _ _ _ (34 ∷ []) _ c.in_ok-extend_from_slice-2.ensures.items
          c.in_ok-put_escape.ensures.ok parts c.loop-out.invariant.whole;
      front = appends_after c.in_ok-put_escape.ensures.front (appends_after
          record { rest = run; split = c.in_ok-extend_from_slice-2.ensures.items }
          c.loop-out.invariant.front);
    }
