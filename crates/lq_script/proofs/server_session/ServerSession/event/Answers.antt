-- An event that is no change has a reply that no changes decide.
use Rattle.std.proofs.Common.{inl, inr, refl, Ok}
use Rattle.lq_value.specs.declared.refusal.Refusal.TheVariants.{BadLine}
use Rattle.lq_desk_world.specs.declared.event.Event.TheVariants.{Close, Notice, Put, Take}
use Rattle.lq_script_request.specs.declared.request.Request.TheVariants as request
use Rattle.lq_script.proofs.AnswerLemmas.{err_free, event_leaves, ok_free, refused_free}
use Rattle.lq_script.proofs.ChangeLemmas.{made_same}
use Rattle.lq_script.proofs.server_session.ServerSession.event.Goals as goal

pub returns-in-Close-clause-replied : goal.returns-in-Close-clause-replied
returns-in-Close-clause-replied g c =
    rw (c.in-Close.is, c.close.ensures.seat)
    (ok_free c.close.result c.args.self.now.seat c.args.self.now.seat
    (Ok (request.Event (Close c.in-Close.slot))) (made_same c.args.self.now.seat)
    (event_leaves (Close c.in-Close.slot) tt) refl)

pub returns-in-Close-clause-refused : goal.returns-in-Close-clause-refused
returns-in-Close-clause-refused g c =
    rw (c.in-Close.is, c.close.ensures.seat)
    (err_free c.close.result c.args.self.now.seat c.args.self.now.seat
    (Ok (request.Event (Close c.in-Close.slot))) (made_same c.args.self.now.seat)
    (event_leaves (Close c.in-Close.slot) tt) refl)

pub returns-in-Take-clause-refused : goal.returns-in-Take-clause-refused
returns-in-Take-clause-refused g c =
    let same = made_same c.args.self.now.seat in
    elim c.in-Take.is [
      | inl take ↦ rw take.1 (refused_free c.args.self.now.seat c.args.self.now.seat
          (Ok (request.Event (Take take.0))) BadLine same (event_leaves (Take take.0) tt) refl)
      | inr other ↦ elim other [
        | inl put ↦ rw put.1 (refused_free c.args.self.now.seat c.args.self.now.seat
            (Ok (request.Event (Put put.0))) BadLine same (event_leaves (Put put.0) tt) refl)
        | inr notice ↦ rw notice.1 (refused_free c.args.self.now.seat c.args.self.now.seat
            (Ok (request.Event (Notice notice.0))) BadLine same
            (event_leaves (Notice notice.0) tt) refl)
      ]
    ]
