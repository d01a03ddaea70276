-- All sessions' parts fit, one after the other.
use Rattle.std.proofs.Common.{◌≡◌, false, List, [], ◌∷◌, ◌++◌, decimal, flat_map, Option, refl, sym, subst}
use Rattle.ixp_lang.specs.Trees.{ItemTree}
use Rattle.ixp_num.specs.declared.addr.Addr.{Addr}
use Rattle.ixp_num.specs.declared.family.Family.{Family}
use Rattle.ixp_num.specs.declared.pattern.Pattern.{Pattern}
use Rattle.ixp_lang_tokens.specs.Pieces.{same_word}
use Rattle.ixp_lang_exprs.specs.Names.{Names}
use Rattle.ixp_compile.specs.declared.inputs.Inputs.{Inputs}
use Rattle.ixp_compile.specs.Fragment.{fragment, table_name, irr_name, origins_name, blackhole_name, in_name, up_name, receive_name, down_name, pipe_name, bgp_name}
use Rattle.ixp_compile_laws.specs.Fit.{IsFit, IsOther, AreFit}
use Rattle.ixp_compile_laws.proofs.Facts.{Facts, Known, known_front, Leads, then_leads, nothing_leads}
use Rattle.ixp_compile_laws.proofs.Session.{heads, own_apart, Apart, free_names, session_leads, apart_both}

-- the session's names are none of another one's
others_apart : (i j : Inputs) → same_word (decimal i.interface) (decimal j.interface) ≡ false → Apart i (free_names j)
others_apart i j e = (rw e refl, rw e refl, rw e refl, rw e refl, rw e refl, rw e refl, rw e refl, rw e refl, rw e refl, rw e refl)

both_apart : (i : Inputs) (fs gs : Facts) → Apart i fs → Apart i gs → Apart i (fs ++ gs)
both_apart i fs gs a b = (
  apart_both (table_name i.interface) fs gs a.0 b.0,
  apart_both (irr_name i.interface) fs gs a.1 b.1,
  apart_both (origins_name i.interface) fs gs a.2 b.2,
  apart_both (blackhole_name i.interface) fs gs a.3 b.3,
  apart_both (in_name i.interface) fs gs a.4 b.4,
  apart_both (up_name i.interface) fs gs a.5 b.5,
  apart_both (receive_name i.interface) fs gs a.6 b.6,
  apart_both (down_name i.interface) fs gs a.7 b.7,
  apart_both (pipe_name i.interface) fs gs a.8 b.8,
  apart_both (bgp_name i.interface) fs gs a.9 b.9,
)

module _ (f : Family) (b : Option Addr) (sets : Inputs → List Pattern) (blackholes : Inputs → List Pattern) where
  -- the names that sessions will have, and those of the head
  abbrev pub ahead : List Inputs → Facts
  ahead [] = heads f b
  ahead (i ∷ is) = free_names i ++ ahead is

  apart_ahead : (i : Inputs) (is : List Inputs) → IsFit f b sets blackholes i → IsOther f b sets blackholes i is → Apart i (ahead is)
  apart_ahead i [] fit other = own_apart i.interface f b
  apart_ahead i (j ∷ js) fit (other, others) = both_apart i (free_names j) (ahead js) (others_apart i j other) (apart_ahead i js fit others)

  looks_ahead : (is : List Inputs) (names : Names) → Known names (ahead is) → Known names (heads f b)
  looks_ahead [] names k = k
  looks_ahead (i ∷ is) names k = looks_ahead is names (known_front names (free_names i) (ahead is) k).1

  part : Inputs → List ItemTree
  part i = fragment i (sets i) (blackholes i)

  Ahead : List Inputs → Names → Type 0
  Ahead is names = Known names (ahead is)

  pub sessions_lead : (is : List Inputs) → AreFit f b sets blackholes is → Leads (λ names. Known names (ahead is)) (flat_map (λ i. fragment i (sets i) (blackholes i)) is) (λ names. Known names (heads f b))
  sessions_lead [] fit = nothing_leads (λ names. Known names (heads f b))
  sessions_lead (i ∷ is) (fit, other, fits) =
      then_leads (λ names. Known names (ahead (i ∷ is))) (λ names. Known names (ahead is)) (λ names. Known names (heads f b)) (fragment i (sets i) (blackholes i)) (flat_map (λ i. fragment i (sets i) (blackholes i)) is)
      (session_leads i (sets i) (blackholes i) (ahead is) (apart_ahead i is fit other) looks fit.2 fit.3 fit.4)
      (sessions_lead is fits)
    where
      looks : (names : Names) → Known names (ahead is) → Known names (heads i.family i.blackhole)
      looks names k = subst (λ g. Known names (heads g i.blackhole)) (sym fit.0) (subst (λ c. Known names (heads f c)) (sym fit.1) (looks_ahead is names k))
