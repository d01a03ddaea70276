-- What a link's turns keep.
use Rattle.std.proofs.Common.{◌≡◌, ℕ, List, Option, refl, sym, ◌∙◌, subst}
use mathlib.Core.List.{IsPrefix}
use Rattle.ixp_board.proofs.Beginnings.{begins_self, begins_through}
use Rattle.ixp_lang.specs.declared.route.Route.{Route}
use Rattle.ixp_api_replies.specs.declared.outcome.Outcome.{Outcome}
use Rattle.ixp_api.specs.declared.call.Call.{Call}
use Rattle.ixp_api.specs.declared.call.Call.TheVariants.{Edit, Ask, Published, Explain, Hold, Glass, GlassPlace}
use Rattle.ixp_http_link.proofs.Keeps.{TurnsKeep}
use Rattle.ixp_glass_holds.specs.Calls.{Log as HoldLog}
use Rattle.ixp_desk_lock.specs.Calls.{Grows}
use Rattle.ixp_desk_explain.specs.Glass.{HoldTurn, PlaceTurn, Sights}
use Rattle.ixp_desk_link.specs.Turns.{LinkTurn, SeesMore}

grows_of : (d : Sights × Option ℕ) (call : Call) (o : Outcome) (e : Sights × Option ℕ) → LinkTurn d call o e → Grows d.0.0 e.0.0
grows_of d (Edit entry) o e t = t.0
grows_of d (Ask secret q) o e t = t.0
grows_of d (Published secret handle seen) o e t = t.0
grows_of d (Explain call) o e t = t.0
grows_of d (Hold secret handle n routes) o e t = t.0
grows_of d (Glass secret handle n) o e t = t.0
grows_of d (GlassPlace secret handle n place) o e t = t.0

stays : (g h : HoldLog) → h ≡ g → IsPrefix g h
stays g h is = subst (λ x. IsPrefix g x) (sym is) (begins_self g)

begins_of : (d : Sights × Option ℕ) (call : Call) (o : Outcome) (e : Sights × Option ℕ) → LinkTurn d call o e → IsPrefix d.0.1 e.0.1
begins_of d (Edit entry) o e t = stays d.0.1 e.0.1 t.2
begins_of d (Ask secret q) o e t = stays d.0.1 e.0.1 t.2
begins_of d (Published secret handle seen) o e t = stays d.0.1 e.0.1 t.2
begins_of d (Explain call) o e t = stays d.0.1 e.0.1 t.2
begins_of d (Hold secret handle n routes) o e t = t.1
begins_of d (Glass secret handle n) o e t = t.1
begins_of d (GlassPlace secret handle n place) o e t = t.1

-- seats see more with each turn
pub turns_see : TurnsKeep LinkTurn (λ d e. SeesMore d.0 e.0)
turns_see = record {
  same = λ d. (refl, begins_self d.0.0.2, begins_self d.0.1);
  turned = λ d mid e call o r t.
      let grows = grows_of mid call o e t in
      (grows.number ∙ r.0, begins_through d.0.0.2 mid.0.0.2 e.0.0.2 r.1 grows.begins, begins_through d.0.1 mid.0.1 e.0.1 r.2 (begins_of mid call o e t));
}

-- a call that is one of these, by the bytes of its secret

pub held : (d e : Sights) (given : Option ℕ) (call : Call) (secret key handle : List ℕ) (n : ℕ) (routes : List Route) (o : Outcome) → call ≡ Hold secret handle n routes → key ≡ secret → Grows d.0 e.0 → IsPrefix d.1 e.1
    → HoldTurn key handle n routes o d e → LinkTurn (d, given) call o (e, given)
held d e given call secret key handle n routes o is same grows begins turn =
    subst (λ x. LinkTurn (d, given) x o (e, given)) (sym is) (grows, begins, subst (λ k. HoldTurn k handle n routes o d e) same turn, refl)

pub placed : (d e : Sights) (given : Option ℕ) (call : Call) (secret key handle : List ℕ) (n place : ℕ) (o : Outcome) → call ≡ GlassPlace secret handle n place → key ≡ secret → Grows d.0 e.0 → IsPrefix d.1 e.1
    → PlaceTurn key handle n place o d e → LinkTurn (d, given) call o (e, given)
placed d e given call secret key handle n place o is same grows begins turn =
    subst (λ x. LinkTurn (d, given) x o (e, given)) (sym is) (grows, begins, subst (λ k. PlaceTurn k handle n place o d e) same turn, refl)
