-- The ROAs that there are.
use Rattle.std.proofs.Common.{◌≡◌, ◌==◌, not, Bool, false, List, Option, None, Result, Ok, Err, IfOk, ap, sym, ◌∙◌}
use Rattle.std.specs.declared.alloc.AllocError.{AllocError}
use Rattle.ixp_num.specs.declared.roa.Roa.{Roa}
use Rattle.ixp_board.specs.Histories.{IsViewOf}
use Rattle.ixp_machine_steps.specs.declared.state.State.{State}
use Rattle.ixp_build_pending.specs.declared.pending.Pending.{Pending}
use Rattle.ixp_desk_history.specs.declared.turn.Shown.{Shown}
use Rattle.ixp_desk_history.specs.declared.turn.Turn.{Turn}
use Rattle.ixp_desk_history.specs.Legal.{Legal}
use Rattle.ixp_desk_history.specs.Turns.{shown_after}
use Rattle.ixp_desk_history.proofs.Installing.{roas_shown}
use Rattle.ixp_build.proofs.Later.{unlisted}
use Rattle.ixp_desk_lock.specs.declared.owed.Owed.{Owed}
use Rattle.ixp_desk_lock.specs.Facts.{Folds, IsStateAt, Log, turn_in, reach_in}
use Rattle.ixp_desk_lock.specs.Given.{HasRoas}
use Rattle.ixp_desk_lock.proofs.Owing.{log_is, shown_is, state_at, unowed}

-- those of the bundle, where none are pending
roas_there : (v : Log × Option Turn) (log : Log) (owed : Option Owed) (s : State) (p : Pending) (old : Shown) → ◌≡◌ {A = Log × Option Turn} (log, turn_in owed) v → v.1 ≡ None
    → Folds log (turn_in owed) (reach_in owed) s p → IsViewOf Legal shown_after log old → p.roas ≡ 0 → old.bundle.roas ≡ s.registry.public.roas
roas_there v log owed s p old view none folds shown zero =
    let g = unowed v log owed s p view none folds in
    ap (λ (w : Shown). w.bundle.roas) (shown_is log old g.first g.turns shown g.is)
    ∙ (roas_shown g.first g.turns p g.legal g.pends zero ∙ ap (λ (x : State). x.registry.public.roas) (sym g.state))

has_roas : (v : Log × Option Turn) (log : Log) (owed : Option Owed) (s : State) (p : Pending) (r : Result (List Roa) AllocError) → ◌≡◌ {A = Log × Option Turn} (log, turn_in owed) v → v.1 ≡ None
    → Folds log (turn_in owed) (reach_in owed) s p → IfOk r (λ t. t ≡ s.registry.public.roas) → IfOk r (HasRoas v.0)
has_roas v log owed s p (Ok t) view none folds is = λ f ts at. is ∙ ap (λ (x : State). x.registry.public.roas) (state_at v log owed s p view none folds f ts at)
has_roas v log owed s p (Err fault) view none folds is = tt

pub roas_made : (v : Log × Option Turn) (log : Log) (owed : Option Owed) (s : State) (p : Pending) (rows : List Roa) (r : Result (List Roa) AllocError) → ◌≡◌ {A = Log × Option Turn} (log, turn_in owed) v
    → v.1 ≡ None → Folds log (turn_in owed) (reach_in owed) s p → rows ≡ s.registry.public.roas → IfOk r (λ t. t ≡ rows) → IfOk r (HasRoas v.0)
roas_made v log owed s p rows (Ok t) view none folds its is = has_roas v log owed s p (Ok t) view none folds (is ∙ its)
roas_made v log owed s p rows (Err fault) view none folds its is = tt

pub roas_shared : (v : Log × Option Turn) (log : Log) (owed : Option Owed) (s : State) (p : Pending) (old : Shown) (pending : Bool) (rows : List Roa) (r : Result (List Roa) AllocError)
    → ◌≡◌ {A = Log × Option Turn} (log, turn_in owed) v → v.1 ≡ None → Folds log (turn_in owed) (reach_in owed) s p → IsViewOf Legal shown_after log old
    → pending ≡ not (p.roas == 0) → pending ≡ false → rows ≡ old.bundle.roas → IfOk r (λ t. t ≡ rows) → IfOk r (HasRoas v.0)
roas_shared v log owed s p old pending rows r view none folds shown tells un its is =
    roas_made v log owed s p rows r view none folds (its ∙ roas_there v log owed s p old view none folds shown (unlisted p.roas pending tells un)) is

-- they are those of the state
pub roas_at : (v : Log × Option Turn) (log : Log) (owed : Option Owed) (s now : State) (p : Pending) (roas : List Roa) → ◌≡◌ {A = Log × Option Turn} (log, turn_in owed) v
    → Folds log (turn_in owed) (reach_in owed) now p → HasRoas v.0 roas → IsStateAt v.0 s → roas ≡ s.registry.public.roas
roas_at v log owed s now p roas view g has state =
    let at = log_is v log (turn_in owed) view ∙ g.is in
    has g.first g.turns at ∙ ap (λ (x : State). x.registry.public.roas) (sym (state g.first g.turns at))
