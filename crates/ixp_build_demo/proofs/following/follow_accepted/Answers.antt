use Rattle.std.proofs.Common.{◌≡◌, IfOk, OnOk, Result, Ok, Err, length, refl, sym, ◌∙◌, subst}
use Rattle.ixp_machine_steps.specs.States.{ValidState}
use Rattle.ixp_machine_steps.proofs.Staying.{still_a_state}
use Rattle.ixp_build_demo.proofs.AfterRequests.{counted, pends}
use Rattle.ixp_build_demo.proofs.following.follow_accepted.Goals as goal

-- what holds, holds where there is a result
on_any : {A E : Type 0} (r : Result A E) (P : Type 0) → P → OnOk r P
on_any (Ok x) P p = p
on_any (Err e) P p = tt

pub rebuild-requires-clause-touched : goal.rebuild-requires-clause-touched
rebuild-requires-clause-touched c =
    pends c.args.bundle.now c.args.state.now c.apply_prepared.new.state c.args.entry c.in_ok-prepared.prepared.change c.in_ok-reached.reached c.in_ok-touch.touch c.requires.valid c.requires.accepted
    (c.in_ok-apply_prepared.ensures.ok ∙ c.in_ok-prepared.ensures.step) c.in_ok-prepared.ensures.change c.in_ok-reached.ensures c.in_ok-touch.ensures c.requires.whole

pub returns-clause-parts : goal.returns-clause-parts
returns-clause-parts c =
    subst (λ m. IfOk c.rebuild.result (λ n. n ≡ m))
    (counted c.args.state.now c.apply_prepared.new.state c.args.entry c.in_ok-prepared.prepared.change c.in_ok-reached.reached c.in_ok-touch.touch (length c.in_ok-touch.touch.sessions)
    c.requires.accepted (c.in_ok-apply_prepared.ensures.ok ∙ c.in_ok-prepared.ensures.step) c.in_ok-prepared.ensures.change c.in_ok-reached.ensures c.in_ok-touch.ensures refl)
    c.rebuild.ensures.parts

pub returns-clause-step : goal.returns-clause-step
returns-clause-step c = on_any c.rebuild.result _ (c.in_ok-apply_prepared.ensures.ok ∙ c.in_ok-prepared.ensures.step)

pub returns-in_err-touch-clause-valid : goal.returns-in_err-touch-clause-valid
returns-in_err-touch-clause-valid c =
    subst ValidState (sym (c.in_ok-apply_prepared.ensures.ok ∙ c.in_ok-prepared.ensures.step)) (still_a_state c.args.state.now c.args.entry c.requires.valid c.requires.lawful)

pub rebuild-requires-clause-valid : goal.rebuild-requires-clause-valid
rebuild-requires-clause-valid c =
    let after : ValidState c.apply_prepared.new.state = subst ValidState (sym (c.in_ok-apply_prepared.ensures.ok ∙ c.in_ok-prepared.ensures.step)) (still_a_state c.args.state.now c.args.entry c.requires.valid c.requires.lawful) in
    after.registry

pub returns-clause-valid : goal.returns-clause-valid
returns-clause-valid c =
    subst ValidState (sym (c.in_ok-apply_prepared.ensures.ok ∙ c.in_ok-prepared.ensures.step)) (still_a_state c.args.state.now c.args.entry c.requires.valid c.requires.lawful)
