use Rattle.std.proofs.Common.{◌≡◌, ◌∙◌, ap, arith, rules, length, codes}
use Rattle.lq_script_request.specs.Fields.{whole_data}
use Rattle.lq_script_request.proofs.RequestLemmas.{asks-as, asks-nothing}
use Rattle.lq_script_request.proofs.raw_request.raw_request_in.Goals as goal

pub returns-in-set : goal.returns-in-set
returns-in-set c =
    asks-as (whole_data c.args.fields.now) c.in-Some.act.now (codes "set") _
    (c.in-Some.ensures ∙ c.at.ensures.text) c.in-set.is c.set_in.ensures

pub returns-in-read : goal.returns-in-read
returns-in-read c =
    asks-as (whole_data c.args.fields.now) c.in-Some.act.now (codes "read") _
    (c.in-Some.ensures ∙ c.at.ensures.text) c.in-read.is c.act_in.ensures

pub returns-in-move : goal.returns-in-move
returns-in-move c =
    asks-as (whole_data c.args.fields.now) c.in-Some.act.now (codes "move") _
    (c.in-Some.ensures ∙ c.at.ensures.text) c.in-move.is c.move_in.ensures

pub returns-in-open : goal.returns-in-open
returns-in-open c =
    asks-as (whole_data c.args.fields.now) c.in-Some.act.now (codes "open") _
    (c.in-Some.ensures ∙ c.at.ensures.text) c.in-open.is c.open_in.ensures

pub returns-in-find : goal.returns-in-find
returns-in-find c =
    asks-as (whole_data c.args.fields.now) c.in-Some.act.now (codes "find") _
    (c.in-Some.ensures ∙ c.at.ensures.text) c.in-find.is c.find_in.ensures

pub returns-in-write : goal.returns-in-write
returns-in-write c =
    asks-as (whole_data c.args.fields.now) c.in-Some.act.now (codes "write") _
    (c.in-Some.ensures ∙ c.at.ensures.text) c.in-write.is c.write_in.ensures

pub returns-in-unset : goal.returns-in-unset
returns-in-unset c =
    asks-as (whole_data c.args.fields.now) c.in-Some.act.now (codes "unset") _
    (c.in-Some.ensures ∙ c.at.ensures.text) c.in-unset.is c.unset_in.ensures

pub returns-in-close : goal.returns-in-close
returns-in-close c =
    asks-as (whole_data c.args.fields.now) c.in-Some.act.now (codes "close") _
    (c.in-Some.ensures ∙ c.at.ensures.text) c.in-close.is c.act_in-in-close.ensures

pub returns-in-entry : goal.returns-in-entry
returns-in-entry c =
    asks-as (whole_data c.args.fields.now) c.in-Some.act.now (codes "entry") _
    (c.in-Some.ensures ∙ c.at.ensures.text) c.in-entry.is c.entry_in.ensures

pub returns-in-fetch : goal.returns-in-fetch
returns-in-fetch c =
    asks-as (whole_data c.args.fields.now) c.in-Some.act.now (codes "fetch") _
    (c.in-Some.ensures ∙ c.at.ensures.text) c.in-fetch.is c.fetch_in.ensures

pub returns-in-create : goal.returns-in-create
returns-in-create c =
    asks-as (whole_data c.args.fields.now) c.in-Some.act.now (codes "create") _
    (c.in-Some.ensures ∙ c.at.ensures.text) c.in-create.is c.create_in.ensures

pub returns-in-remove : goal.returns-in-remove
returns-in-remove c =
    asks-as (whole_data c.args.fields.now) c.in-Some.act.now (codes "remove") _
    (c.in-Some.ensures ∙ c.at.ensures.text) c.in-remove.is c.remove_in.ensures

pub returns-in-finish : goal.returns-in-finish
returns-in-finish c =
    asks-as (whole_data c.args.fields.now) c.in-Some.act.now (codes "finish") _
    (c.in-Some.ensures ∙ c.at.ensures.text) c.in-finish.is c.act_in-in-finish.ensures

pub returns-in-result : goal.returns-in-result
returns-in-result c =
    asks-as (whole_data c.args.fields.now) c.in-Some.act.now (codes "result") _
    (c.in-Some.ensures ∙ c.at.ensures.text) c.in-result.is c.rebuilt_in.ensures

pub returns-in-hang_up : goal.returns-in-hang_up
returns-in-hang_up c =
    asks-as (whole_data c.args.fields.now) c.in-Some.act.now (codes "hang_up") _
    (c.in-Some.ensures ∙ c.at.ensures.text) c.in-hang_up.is c.act_in-in-hang_up.ensures

pub returns-in_default-act : goal.returns-in_default-act
returns-in_default-act c =
    let act = c.in-Some.act.now in
    let not-set : act ≡ codes "set" → ⊥ = search rules in
    asks-nothing (whole_data c.args.fields.now) act (c.in-Some.ensures ∙ c.at.ensures.text)
    (λ e. omega (arith, ap length e))
    (λ e. omega (arith, ap length e))
    (λ e. omega (arith, ap length e))
    (λ e. omega (arith, ap length e))
    not-set
    (λ e. omega (arith, ap length e))
    (λ e. omega (arith, ap length e))
    (λ e. omega (arith, ap length e))
    (λ e. omega (arith, ap length e))
    (λ e. omega (arith, ap length e))
    (λ e. omega (arith, ap length e))
    (λ e. omega (arith, ap length e))
    (λ e. omega (arith, ap length e))
    (λ e. omega (arith, ap length e))
    (λ e. omega (arith, ap length e))

pub returns-in_default-act-2 : goal.returns-in_default-act-2
returns-in_default-act-2 c =
    let act = c.in-Some.act.now in
    let not-move : act ≡ codes "move" → ⊥ = search rules in
    let not-open : act ≡ codes "open" → ⊥ = search rules in
    let not-read : act ≡ codes "read" → ⊥ = search rules in
    let not-find : act ≡ codes "find" → ⊥ = search rules in
    asks-nothing (whole_data c.args.fields.now) act (c.in-Some.ensures ∙ c.at.ensures.text)
    (λ e. omega (arith, ap length e))
    (λ e. omega (arith, ap length e))
    not-move
    (λ e. omega (arith, ap length e))
    (λ e. omega (arith, ap length e))
    (λ e. omega (arith, ap length e))
    not-open
    not-read
    (λ e. omega (arith, ap length e))
    (λ e. omega (arith, ap length e))
    (λ e. omega (arith, ap length e))
    not-find
    (λ e. omega (arith, ap length e))
    (λ e. omega (arith, ap length e))
    (λ e. omega (arith, ap length e))

pub returns-in_default-act-3 : goal.returns-in_default-act-3
returns-in_default-act-3 c =
    let act = c.in-Some.act.now in
    let not-write : act ≡ codes "write" → ⊥ = search rules in
    let not-unset : act ≡ codes "unset" → ⊥ = search rules in
    let not-close : act ≡ codes "close" → ⊥ = search rules in
    let not-entry : act ≡ codes "entry" → ⊥ = search rules in
    let not-fetch : act ≡ codes "fetch" → ⊥ = search rules in
    asks-nothing (whole_data c.args.fields.now) act (c.in-Some.ensures ∙ c.at.ensures.text)
    (λ e. omega (arith, ap length e))
    (λ e. omega (arith, ap length e))
    (λ e. omega (arith, ap length e))
    not-write
    (λ e. omega (arith, ap length e))
    not-unset
    (λ e. omega (arith, ap length e))
    (λ e. omega (arith, ap length e))
    (λ e. omega (arith, ap length e))
    not-close
    (λ e. omega (arith, ap length e))
    (λ e. omega (arith, ap length e))
    not-entry
    not-fetch
    (λ e. omega (arith, ap length e))

pub returns-in_default-act-4 : goal.returns-in_default-act-4
returns-in_default-act-4 c =
    let act = c.in-Some.act.now in
    let not-create : act ≡ codes "create" → ⊥ = search rules in
    let not-remove : act ≡ codes "remove" → ⊥ = search rules in
    let not-finish : act ≡ codes "finish" → ⊥ = search rules in
    let not-result : act ≡ codes "result" → ⊥ = search rules in
    asks-nothing (whole_data c.args.fields.now) act (c.in-Some.ensures ∙ c.at.ensures.text)
    not-create
    not-remove
    (λ e. omega (arith, ap length e))
    (λ e. omega (arith, ap length e))
    (λ e. omega (arith, ap length e))
    (λ e. omega (arith, ap length e))
    (λ e. omega (arith, ap length e))
    (λ e. omega (arith, ap length e))
    (λ e. omega (arith, ap length e))
    (λ e. omega (arith, ap length e))
    not-finish
    (λ e. omega (arith, ap length e))
    (λ e. omega (arith, ap length e))
    (λ e. omega (arith, ap length e))
    not-result

pub returns-in_default-act-5 : goal.returns-in_default-act-5
returns-in_default-act-5 c =
    let act = c.in-Some.act.now in
    let not-hang_up : act ≡ codes "hang_up" → ⊥ = search rules in
    asks-nothing (whole_data c.args.fields.now) act (c.in-Some.ensures ∙ c.at.ensures.text)
    (λ e. omega (arith, ap length e))
    (λ e. omega (arith, ap length e))
    (λ e. omega (arith, ap length e))
    (λ e. omega (arith, ap length e))
    (λ e. omega (arith, ap length e))
    (λ e. omega (arith, ap length e))
    (λ e. omega (arith, ap length e))
    (λ e. omega (arith, ap length e))
    not-hang_up
    (λ e. omega (arith, ap length e))
    (λ e. omega (arith, ap length e))
    (λ e. omega (arith, ap length e))
    (λ e. omega (arith, ap length e))
    (λ e. omega (arith, ap length e))
    (λ e. omega (arith, ap length e))

pub returns-in_default-len : goal.returns-in_default-len
returns-in_default-len c =
    let act = c.in-Some.act.now in
    asks-nothing (whole_data c.args.fields.now) act (c.in-Some.ensures ∙ c.at.ensures.text)
    (λ e. omega (arith, ap length e))
    (λ e. omega (arith, ap length e))
    (λ e. omega (arith, ap length e))
    (λ e. omega (arith, ap length e))
    (λ e. omega (arith, ap length e))
    (λ e. omega (arith, ap length e))
    (λ e. omega (arith, ap length e))
    (λ e. omega (arith, ap length e))
    (λ e. omega (arith, ap length e))
    (λ e. omega (arith, ap length e))
    (λ e. omega (arith, ap length e))
    (λ e. omega (arith, ap length e))
    (λ e. omega (arith, ap length e))
    (λ e. omega (arith, ap length e))
    (λ e. omega (arith, ap length e))
