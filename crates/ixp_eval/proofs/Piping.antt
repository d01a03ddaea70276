-- Pipes found by the table that is their peer.
use Rattle.std.proofs.Common.{◌≡◌, ◌⊎◌, inl, inr, ◌+◌, ℕ, Bool, true, false, ◌&&◌, List, [], ◌∷◌, drop, Option, Some, None, if◌then◌else◌, refl, sym, ap, ◌∙◌, subst}
use Rattle.std.specs.List.{slice_get}
use Rattle.std.proofs.lemmas.Bool.{cases_Bool, cond-true, cond-false}
use Rattle.ixp_lang.specs.declared.item.Pipe.{Pipe}
use Rattle.ixp_lang.specs.Meaning.{same_name}
use Rattle.ixp_lang.specs.Trees.{ItemTree, router_id_item, table_item, define_item, function_item, filter_item, device_item, pipe_item, bgp_item}
use Rattle.ixp_lang.specs.Walks.{pipe_between, pipe_from, pipes_of}
use Rattle.ixp_eval.specs.Places.{finds, is_between, is_from, pipe_at, places_of}
use Rattle.ixp_eval.proofs.Placing.{item_at, next_drop, one_more}

abbrev or_else : Option Pipe → Option Pipe → Option Pipe
or_else (Some p) o = Some p
or_else None o = o

-- the first pipe at these places that passes
abbrev pub first_at : (Pipe → Bool) → List ItemTree → List ℕ → Option Pipe
first_at test all [] = None
first_at test all (at ∷ ats) = or_else (pipe_at test (slice_get all at)) (first_at test all ats)

pub first_here : (test : Pipe → Bool) (all : List ItemTree) (at : ℕ) (ats : List ℕ) (p : Pipe) → Some p ≡ pipe_at test (slice_get all at) → Some p ≡ first_at test all (at ∷ ats)
first_here test all at ats p e = ap (λ o. or_else o (first_at test all ats)) e

abbrev first_pipe : (Pipe → Bool) → List ItemTree → Option Pipe
first_pipe test [] = None
first_pipe test (i ∷ is) = or_else (pipe_at test (Some i)) (first_pipe test is)

or_if : (b : Bool) (p : Pipe) (o : Option Pipe) → or_else (if b then Some p else None) o ≡ (if b then Some p else o)
or_if true p o = refl
or_if false p o = refl

module _ (n : List ℕ) (test : Pipe → Bool) (tested : (p : Pipe) → test p ≡ true → same_name p.peer n ≡ true) (all : List ItemTree) where
  fails : (p : Pipe) → same_name p.peer n ≡ false → (b : Bool) → test p ≡ b → b ≡ false
  fails p e true h = absurd (let bad : false ≡ true = sym e ∙ tested p h in cc)
  fails p e false h = refl

  none_unfound : (i : ItemTree) → finds n i ≡ false → pipe_at test (Some i) ≡ None
  none_unfound (router_id_item a) e = refl
  none_unfound (table_item k m) e = refl
  none_unfound (define_item m v) e = refl
  none_unfound (function_item m ps ss) e = refl
  none_unfound (filter_item m ss) e = refl
  none_unfound (device_item m) e = refl
  none_unfound (pipe_item p) e = cond-false (test p) _ _ (fails p e (test p) refl)
  none_unfound (bgp_item b) e = refl

  pub all_places : (at : ℕ) (is : List ItemTree) → is ≡ drop at all → first_at test all (places_of n at is) ≡ first_pipe test is
  all_places at [] h = refl
  all_places at (i ∷ is) h = by_case (cases_Bool (finds n i)) (all_places (at + 1) is (subst (λ k. is ≡ drop k all) (one_more at) (next_drop all at i is h))) where
    by_case : (finds n i ≡ true) ⊎ (finds n i ≡ false) → first_at test all (places_of n (at + 1) is) ≡ first_pipe test is → first_at test all (places_of n at (i ∷ is)) ≡ first_pipe test (i ∷ is)
    by_case (inl e) more =
        ap (first_at test all) (cond-true (finds n i) _ _ e) ∙ ap (λ o. or_else (pipe_at test o) (first_at test all (places_of n (at + 1) is))) (item_at all at i is h)
        ∙ ap (or_else (pipe_at test (Some i))) more
    by_case (inr e) more =
        ap (first_at test all) (cond-false (finds n i) _ _ e) ∙ more ∙ sym (ap (λ o. or_else o (first_pipe test is)) (none_unfound i e))

between_peer : (primary peer : List ℕ) (p : Pipe) → is_between primary peer p ≡ true → same_name p.peer peer ≡ true
between_peer primary peer p e = both (same_name p.table primary) (same_name p.peer peer) e where
  both : (a b : Bool) → (a && b) ≡ true → b ≡ true
  both true b h = h
  both false b h = absurd cc

between_first : (primary peer : List ℕ) (is : List ItemTree) → first_pipe (is_between primary peer) is ≡ pipe_between (pipes_of is) primary peer
between_first primary peer [] = refl
between_first primary peer (router_id_item a ∷ is) = between_first primary peer is
between_first primary peer (table_item k m ∷ is) = between_first primary peer is
between_first primary peer (define_item m e ∷ is) = between_first primary peer is
between_first primary peer (function_item m ps ss ∷ is) = between_first primary peer is
between_first primary peer (filter_item m ss ∷ is) = between_first primary peer is
between_first primary peer (device_item m ∷ is) = between_first primary peer is
between_first primary peer (pipe_item p ∷ is) = or_if (is_between primary peer p) p _ ∙ ap (λ o. if is_between primary peer p then Some p else o) (between_first primary peer is)
between_first primary peer (bgp_item b ∷ is) = between_first primary peer is

from_first : (table : List ℕ) (is : List ItemTree) → first_pipe (is_from table) is ≡ pipe_from (pipes_of is) table
from_first table [] = refl
from_first table (router_id_item a ∷ is) = from_first table is
from_first table (table_item k m ∷ is) = from_first table is
from_first table (define_item m e ∷ is) = from_first table is
from_first table (function_item m ps ss ∷ is) = from_first table is
from_first table (filter_item m ss ∷ is) = from_first table is
from_first table (device_item m ∷ is) = from_first table is
from_first table (pipe_item p ∷ is) = or_if (is_from table p) p _ ∙ ap (λ o. if is_from table p then Some p else o) (from_first table is)
from_first table (bgp_item b ∷ is) = from_first table is

pub between_found : (primary peer : List ℕ) (all : List ItemTree) → first_at (is_between primary peer) all (places_of peer 0 all) ≡ pipe_between (pipes_of all) primary peer
between_found primary peer all = all_places peer (is_between primary peer) (between_peer primary peer) all 0 all refl ∙ between_first primary peer all

pub from_found : (table : List ℕ) (all : List ItemTree) → first_at (is_from table) all (places_of table 0 all) ≡ pipe_from (pipes_of all) table
from_found table all = all_places table (is_from table) (λ p e. e) all 0 all refl ∙ from_first table all
