-- What was done so far on a link.
use Rattle.std.proofs.Common.{◌≡◌, ◌+◌, ◌<◌, ℕ, Bool, true, false, ◌||◌, ◌==◌, Option, None, Some, List, [], ◌∷◌, ◌++◌, length, append_assoc, refl, sym, ap, ◌∙◌, subst, arith, length-append}
use Rattle.std.proofs.lemmas.List.{append-nil}
use Rattle.std.proofs.lemmas.Bool.Decides.{nat_tests}
use Rattle.ixp_io.specs.Told.{Told, Takes}
use Rattle.ixp_io.proofs.Streams.{Takes-then, Takes-none}
use Rattle.ixp_http.specs.Messages.{message, First}
use Rattle.ixp_http.specs.Replies.{reply_bytes}
use Rattle.ixp_api_replies.specs.Replies.{reply}
use Rattle.ixp_api_replies.specs.declared.outcome.Outcome.{Outcome}
use Rattle.ixp_api.specs.declared.call.Call.{Call}
use Rattle.ixp_http_link.specs.Turns.{Exchange, Goes, GoesOn}
use Rattle.ixp_http_link.specs.Links.{Reads, replies}

-- one exchange more
pub goes_on : {D : Type 0} (turn : D → Call → Outcome → D → Type 0) (d mid e : D) (xs : List Exchange) (x : Exchange)
    → GoesOn turn d xs mid → Goes turn mid x e → GoesOn turn d (xs ++ x ∷ []) e
goes_on turn d mid e [] x p q = (e, subst (λ s. Goes turn s x e) p q, refl)
goes_on turn d mid e (y ∷ ys) x p q = (p.0, p.1, goes_on turn p.0 mid e ys x p.2 q)

pub reads_on : (bytes mid rest : List ℕ) (xs : List Exchange) (x : Exchange)
    → Reads bytes xs mid → First mid (message x.request rest) → Reads bytes (xs ++ x ∷ []) rest
reads_on bytes mid rest [] x p q = (rest, subst (λ (b : List ℕ). First b (message x.request rest)) (sym p) q, refl)
reads_on bytes mid rest (y ∷ ys) x p q = (p.0, p.1, reads_on p.0 mid rest ys x p.2 q)

pub replies_on : (xs : List Exchange) (x : Exchange) → replies (xs ++ x ∷ []) ≡ replies xs ++ reply_bytes (reply x.outcome)
replies_on [] x = append-nil (reply_bytes (reply x.outcome))
replies_on (y ∷ ys) x =
    ap (λ (t : List ℕ). reply_bytes (reply y.outcome) ++ t) (replies_on ys x)
    ∙ sym (append_assoc (reply_bytes (reply y.outcome)) (replies ys) (reply_bytes (reply x.outcome)))

-- n requests were answered, and the link went on after each
pub record Run {D : Type 0} (turn : D → Call → Outcome → D → Type 0) (d e : D) (left now : Option (List ℕ)) (held : List ℕ)
    (written all : Option (List ℕ)) (n : ℕ) : Type 0 where
  pub xs : List Exchange
  pub goes : GoesOn turn d xs e
  pub counted : length xs ≡ n
  pub read : Told left now (λ bytes rest. Reads bytes xs (held ++ rest))
  pub wrote : Takes written all (replies xs)

told_none : (left : Option (List ℕ)) → Told left left (λ bytes rest. bytes ≡ [] ++ rest)
told_none None = tt
told_none (Some bytes) = refl

pub run_none : {D : Type 0} (turn : D → Call → Outcome → D → Type 0) (d : D) (left written : Option (List ℕ))
    → Run turn d d left left [] written written 0
run_none turn d left written = record {
  xs = [];
  goes = refl;
  counted = refl;
  read = told_none left;
  wrote = Takes-none written;
}

told_on : (left mid now : Option (List ℕ)) (held holds : List ℕ) (xs : List Exchange) (x : Exchange)
    → Told left mid (λ bytes rest. Reads bytes xs (held ++ rest))
    → Told mid now (λ bytes rest. First (held ++ bytes) (message x.request (holds ++ rest)))
    → Told left now (λ bytes rest. Reads bytes (xs ++ x ∷ []) (holds ++ rest))
told_on None None None held holds xs x p q = tt
told_on None None (Some now) held holds xs x p q = q
told_on None (Some mid) now held holds xs x p q = absurd p
told_on (Some left) None now held holds xs x p q = absurd p
told_on (Some left) (Some mid) None held holds xs x p q = q
told_on (Some left) (Some mid) (Some now) held holds xs x p q = reads_on left (held ++ mid) (holds ++ now) xs x p q

pub run_on : {D : Type 0} (turn : D → Call → Outcome → D → Type 0) (d mid e : D) (left before now : Option (List ℕ)) (held holds : List ℕ)
    (written some all : Option (List ℕ)) (n : ℕ) (x : Exchange)
    → Run turn d mid left before held written some n → Goes turn mid x e
    → Told before now (λ bytes rest. First (held ++ bytes) (message x.request (holds ++ rest)))
    → Takes some all (reply_bytes (reply x.outcome))
    → Run turn d e left now holds written all (n + 1)
run_on turn d mid e left before now held holds written some all n x run goes told takes = record {
  xs = run.xs ++ x ∷ [];
  goes = goes_on turn d mid e run.xs x run.goes goes;
  counted = length-append run.xs (x ∷ []) ∙ ap (λ (m : ℕ). m + 1) run.counted;
  read = told_on left before now held holds run.xs x run.read told;
  wrote =
      subst (λ (t : List ℕ). Takes written all t) (sym (replies_on run.xs x))
      (Takes-then written some all (replies run.xs) (reply_bytes (reply x.outcome)) run.wrote takes);
}

-- a request with which the link doesn't end isn't the last one
pub few_on : (b : Bool) (n : ℕ) → n < 100000 → (b || n + 1 == 100000) ≡ false → n + 1 < 100000
few_on true n p q = absurd (cc (q))
few_on false n p q = grind (arith, nat_tests)
