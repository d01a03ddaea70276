-- What is answered of a session's own text.
use Rattle.std.proofs.Common.{◌≡◌, ℕ, Vec, Global, List, Option, Some, None, Result, Ok, Err, IfOk, refl, ◌∙◌}
use Rattle.std.specs.declared.alloc.AllocError.{AllocError}
use Rattle.ixp_num_tables.specs.Tables.{if_there}
use Rattle.ixp_registry.specs.declared.registry.Registry.{Registry}
use Rattle.ixp_registry.specs.declared.router.Router.{Router}
use Rattle.ixp_registry.specs.Sessions.{Session, session}
use Rattle.ixp_machine_steps.specs.declared.state.State.{State}
use Rattle.ixp_compile.specs.Generated.{own_part}
use Rattle.ixp_compile_text.specs.declared.fault.GenFault.TheVariants as gen
use Rattle.ixp_compile_text.specs.Answers.{Prints, part_at, router_at}
use Rattle.ixp_desk_history.specs.declared.turn.Answered.{Answered}
use Rattle.ixp_desk_history.specs.declared.turn.Answered.TheVariants as answered
use Rattle.ixp_desk_history.specs.declared.turn.Asked.TheVariants.{OwnText}
use Rattle.ixp_desk_history.specs.declared.turn.Text.{Text}
use Rattle.ixp_desk_history.specs.Answers.{HasNoSession, IsAnswered, IsOwnText, own_refusal}
use Rattle.ixp_desk_lock.specs.Given.{IsOwnAnswer}

-- the text that was made is that of a session
pub own_found : (s : State) (h : List ℕ) (n : ℕ) (text : Vec ℕ Global) (t : Text) → Prints (part_at s.registry h n) (Ok text) → t.built ≡ s.accepted → t.bytes ≡ text.items
    → t.roas ≡ s.registry.public.roas → IsOwnText s h n t
own_found s h n text t prints built bytes roas = by_router (router_at s.registry h) refl prints where
  by_session : (q : Router) → router_at s.registry h ≡ Some q → (o : Option Session) → session s.registry q n ≡ o
      → Prints (if_there o (Err gen.NoSession) (λ x. Ok (own_part s.registry q x))) (Ok text) → IsOwnText s h n t
  by_session q there None none prints = absurd (let bad : ⊥ = cc in bad)
  by_session q there (Some x) its prints = record {
    router = q;
    is_there = there;
    sender = x;
    is_sender = its;
    built = built;
    bytes = bytes ∙ prints;
    roas = roas;
  }

  by_router : (o : Option Router) → router_at s.registry h ≡ o
      → Prints (if_there o (Err gen.NoRouter) (λ q. if_there (session s.registry q n) (Err gen.NoSession) (λ x. Ok (own_part s.registry q x)))) (Ok text) → IsOwnText s h n t
  by_router None none prints = absurd (let bad : ⊥ = cc in bad)
  by_router (Some q) there prints = by_session q there (session s.registry q n) refl prints

pub no_session : (r : Registry) (h : List ℕ) (n : ℕ) → Prints (part_at r h n) (Err gen.NoSession) → HasNoSession r h n
no_session r h n prints = by_router (router_at r h) refl prints where
  by_session : (q : Router) → router_at r h ≡ Some q → (o : Option Session) → session r q n ≡ o
      → Prints (if_there o (Err gen.NoSession) (λ x. Ok (own_part r q x))) (Err gen.NoSession) → HasNoSession r h n
  by_session q there None none prints = (q, there, none)
  by_session q there (Some x) its prints = absurd (let bad : ⊥ = cc in bad)

  by_router : (o : Option Router) → router_at r h ≡ o
      → Prints (if_there o (Err gen.NoRouter) (λ q. if_there (session r q n) (Err gen.NoSession) (λ x. Ok (own_part r q x)))) (Err gen.NoSession) → HasNoSession r h n
  by_router None none prints = absurd (let bad : ⊥ = cc in bad)
  by_router (Some q) there prints = by_session q there (session r q n) refl prints

answered_if : (s : State) (secret h : List ℕ) (n : ℕ) (a : Answered) → own_refusal s.registry secret h n ≡ None → IsOwnAnswer s h n a → IsAnswered s (OwnText secret h n) a
answered_if s secret h n (answered.Text t) none is = (none, is)
answered_if s secret h n answered.NoSession none is = (none, is)
answered_if s secret h n (answered.Answer x) none is = absurd is
answered_if s secret h n (answered.Refused x) none is = absurd is
answered_if s secret h n (answered.Place p) none is = absurd is

-- what isn't refused is answered
pub own_answered : (s : State) (secret h : List ℕ) (n : ℕ) (r : Result Answered AllocError) → own_refusal s.registry secret h n ≡ None → IfOk r (IsOwnAnswer s h n)
    → IfOk r (IsAnswered s (OwnText secret h n))
own_answered s secret h n (Ok a) none is = answered_if s secret h n a none is
own_answered s secret h n (Err fault) none is = tt
