-- Tests that look no further than a sight, and tokens that are alike to them.
use Rattle.std.proofs.Common.{◌≡◌, Bool, true, false, List, [], ◌∷◌, ◌++◌, refl, sym, ap, ◌∙◌}
use Rattle.ixp_lang_tokens.specs.declared.token.Kind.{Kind}
use Rattle.ixp_lang_tokens.specs.Grammars.{Grammar, gives, takes, sequence, choice, rounds, checks, bars, unless, here}
use Rattle.ixp_lang_tokens.proofs.Clear.{IsOfFirst, Sight, IsSeen, ClearBy, Clear}
use Rattle.ixp_lang_tokens.proofs.Fronts.{Front}
use Rattle.ixp_lang_tokens.proofs.Looks.{Look}
use Rattle.ixp_lang_tokens.proofs.ClearLooks.{ClearlyBy, Clearly}

-- the first token alone
abbrev pub first_alone : Sight
first_alone = record { fork = λ k. false; turn = λ ts. false; steady = λ k x y. refl }

first_is_seen : (t : List Kind → Bool) → IsOfFirst t → IsSeen first_alone t
first_is_seen t first = (first.0, λ k x y e. first.1 k x y)

pub first_seen : (sight : Sight) (t : List Kind → Bool) → IsOfFirst t → IsSeen sight t
first_seen sight t first = (first.0, λ k x y e. first.1 k x y)

pub clear_map : {T U : (List Kind → Bool) → Type 0} → ((t : List Kind → Bool) → T t → U t) → {A : Type 0} (f : Grammar A) → ClearBy T f → ClearBy U f
clear_map h (gives w) clear = tt
clear_map h (takes c) clear = tt
clear_map h (sequence f g) (cf, cg, apart) = (clear_map h f cf, λ b. clear_map h (g b) (cg b), apart)
clear_map h (choice f g) (leads, cf, cg, apart) = (leads, clear_map h f cf, clear_map h g cg, apart)
clear_map h (rounds f s) (cf, never, apart) = (λ t. clear_map h (f t) (cf t), never, apart)
clear_map h (checks o f) clear = clear_map h f clear
clear_map h (bars t c f) (test, clear) = (h t test, clear_map h f clear)
clear_map h (unless t f) (test, clear) = (h t test, clear_map h f clear)
clear_map h (here f) clear = λ n. clear_map h (f n) (clear n)

pub clear_first : {A : Type 0} (f : Grammar A) → Clear f → ClearBy (IsSeen first_alone) f
clear_first f clear = clear_map first_is_seen f clear

pub clearly_seen : (sight : Sight) {A : Type 0} {g : Grammar A} {l : Look} {ss : List Front} → Clearly g l ss → ClearlyBy (IsSeen sight) g l ss
clearly_seen sight {A} {g} k =
    record { clear = clear_map (first_seen sight) g k.clear; leads = k.leads; full = k.full; starts = k.starts; opens = k.opens; ends = k.ends; spoils = k.spoils }

-- the same token is first in both, and behind a fork the same turn
pub record Like (sight : Sight) (r s : List Kind) : Type 0 where
  pub token : Kind
  pub first_rest : List Kind
  pub second_rest : List Kind
  pub first : r ≡ token ∷ first_rest
  pub second : s ≡ token ∷ second_rest
  pub next : sight.fork token ≡ true → sight.turn first_rest ≡ sight.turn second_rest

turn_behind : (sight : Sight) (front r s : List Kind) → Like sight r s → sight.turn (front ++ r) ≡ sight.turn (front ++ s)
turn_behind sight [] r s same = ap sight.turn same.first ∙ sight.steady same.token same.first_rest same.second_rest ∙ sym (ap sight.turn same.second)
turn_behind sight (k ∷ ks) r s same = sight.steady k (ks ++ r) (ks ++ s)

pub like_behind : (sight : Sight) (front r s : List Kind) → Like sight r s → Like sight (front ++ r) (front ++ s)
like_behind sight [] r s same = same
like_behind sight (k ∷ ks) r s same =
    record { token = k; first_rest = ks ++ r; second_rest = ks ++ s; first = refl; second = refl; next = λ e. turn_behind sight ks r s same }

pub like_of : (sight : Sight) (k : Kind) (r s : List Kind) → (sight.fork k ≡ true → sight.turn r ≡ sight.turn s) → Like sight (k ∷ r) (k ∷ s)
like_of sight k r s next = record { token = k; first_rest = r; second_rest = s; first = refl; second = refl; next = next }
