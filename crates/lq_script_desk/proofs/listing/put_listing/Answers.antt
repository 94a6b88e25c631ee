use Rattle.lq_script_desk.proofs.Joining.{appends_after}
use Rattle.lq_script_desk.proofs.listing.put_listing.Goals as goal

pub returns-clause-front : goal.returns-clause-front
returns-clause-front c =
    appends_after c.in_ok-put_sized.ensures.front
    (appends_after c.in_ok-put_text-2.ensures.front
    (appends_after c.in_ok-put_text.ensures.front
    (appends_after c.in_ok-put_unsigned.ensures.front c.in_ok-put_attrs.ensures.front)))
