-- What is left of a link's input, request by request.
use Rattle.std.proofs.Common.{inl, inr, ◌≡◌, ◌⊎◌, ◌≤◌, ◌+◌, ◌++◌, ◌∙◌, ℕ, Option, None, Some, IfSome, List, [], ◌∷◌, length, refl, sym, ap, subst, arith}
use Rattle.std.proofs.lemmas.List.{length-append}
use Rattle.ixp_io.specs.Told.{Told}
use Rattle.ixp_http.specs.Answers.{TakesUpTo, most_held}
use Rattle.ixp_http.specs.Heads.{chunk}
use Rattle.ixp_http.specs.Messages.{message, closed, First}
use Rattle.ixp_http.specs.declared.request.Request.{Request}
use Rattle.ixp_http.proofs.Together.{told_by}
use Rattle.ixp_http_link.specs.Left.{BeginWith, IsTaken, LeavesFrom, Leaves}
use Rattle.ixp_http_link.specs.Steps.{Refuses}
use Rattle.ixp_http_link.specs.declared.ends.LinkEnd.{LinkEnd}
use Rattle.ixp_http_link.specs.declared.ends.LinkEnd.TheVariants.{Closed, BadMessage, Cut, Spent, ReadFault, WriteFault, NoMemory}
use Rattle.ixp_http_link.specs.declared.ends.Served.{Served}

-- what one read gives is taken behind any end
taken_small : (end : LinkEnd) (taken rest : List ℕ) → length taken ≤ chunk → IsTaken end taken rest
taken_small Closed taken rest few = inl few
taken_small Spent taken rest few = few
taken_small (BadMessage status) taken rest few = omega (arith, few)
taken_small Cut taken rest few = omega (arith, few)
taken_small ReadFault taken rest few = omega (arith, few)
taken_small WriteFault taken rest few = omega (arith, few)
taken_small NoMemory taken rest few = omega (arith, few)

-- a message behind the end of a link with one that is no request
pub taken_refused : (status : ℕ) (W : List ℕ → Type 0) (B : Type 0) (end : LinkEnd) → Refuses status W B end
    → (taken rest : List ℕ) → length taken ≤ most_held → IsTaken end taken rest
taken_refused status W B (BadMessage told) r taken rest few = few
taken_refused status W B WriteFault r taken rest few = few
taken_refused status W B NoMemory r taken rest few = few
taken_refused status W B Closed r taken rest few = absurd r
taken_refused status W B Cut r taken rest few = absurd r
taken_refused status W B Spent r taken rest few = absurd r
taken_refused status W B ReadFault r taken rest few = absurd r

told_both : (a b : Option (List ℕ)) (P Q : List ℕ → List ℕ → Type 0) → Told a b P → Told a b Q → Told a b (λ x y. P x y × Q x y)
told_both None None P Q p q = tt
told_both None (Some y) P Q p q = p
told_both (Some x) None P Q p q = p
told_both (Some x) (Some y) P Q p q = (p, q)

told_then : (a b c : Option (List ℕ)) (P Q R : List ℕ → List ℕ → Type 0) → Told a b P → Told b c Q
    → ((x y z : List ℕ) → P x y → Q y z → R x z) → Told a c R
told_then None None None P Q R p q f = tt
told_then None None (Some z) P Q R p q f = q
told_then None (Some y) c P Q R p q f = absurd p
told_then (Some x) None c P Q R p q f = absurd p
told_then (Some x) (Some y) None P Q R p q f = q
told_then (Some x) (Some y) (Some z) P Q R p q f = f x y z p q

-- no request was read whole
pub none_read : (n : ℕ) (before after : Option (List ℕ)) (held : List ℕ) (served : Served) → served.requests ≡ n
    → ((taken rest : List ℕ) → length taken ≤ most_held → IsTaken served.end taken rest)
    → TakesUpTo most_held before after held → LeavesFrom n before after held served
none_read n before after held served count is (taken, few, together) = record {
  rs = [];
  taken = taken;
  count = inl (omega (arith, count));
  rest =
      told_by before after (λ left rest. held ++ left ≡ taken ++ rest) (λ left rest. (held ++ left ≡ taken ++ rest) × IsTaken served.end taken rest)
      together (λ left rest e. (e, is taken rest few));
}

-- the input ended between messages
pub input_ended : (n : ℕ) (before after : Option (List ℕ)) (held : List ℕ) → Told before after (λ left rest. First (held ++ left) closed)
    → TakesUpTo most_held before after held → LeavesFrom n before after held (record { end = Closed; requests = n })
input_ended n before after held ends (taken, few, together) = record {
  rs = [];
  taken = taken;
  count = inl (omega arith);
  rest =
      told_by before after (λ left rest. (held ++ left ≡ taken ++ rest) × First (held ++ left) closed)
      (λ left rest. (held ++ left ≡ taken ++ rest) × IsTaken Closed taken rest)
      (told_both before after (λ left rest. held ++ left ≡ taken ++ rest) (λ left rest. First (held ++ left) closed) together ends)
      (λ left rest p. (p.0, inr (subst (λ (t : List ℕ). First t closed) p.0 p.1)));
}

-- one request was read, and the link ended
pub one_read : (n : ℕ) (before after : Option (List ℕ)) (held holds : List ℕ) (r : Request) (served : Served)
    → Told before after (λ left rest. First (held ++ left) (message r (holds ++ rest))) → length holds ≤ chunk
    → (served.requests ≡ n) ⊎ (served.requests ≡ n + 1) → LeavesFrom n before after held served
one_read n before after held holds r served told few count = record {
  rs = r ∷ [];
  taken = holds;
  count = counted count;
  rest =
      told_by before after (λ left rest. First (held ++ left) (message r (holds ++ rest)))
      (λ left rest. BeginWith (held ++ left) (r ∷ []) (holds ++ rest) × IsTaken served.end holds rest) told
      (λ left rest first. ((holds ++ rest, first, refl), taken_small served.end holds rest few));
}
  where
    counted : (served.requests ≡ n) ⊎ (served.requests ≡ n + 1) → (n + 1 ≡ served.requests) ⊎ (n + 1 ≡ served.requests + 1)
    counted (inl e) = inr (omega (arith, e))
    counted (inr e) = inl (sym e)

-- so many requests were read, and this is held
pub record SoFar (n : ℕ) (before now : Option (List ℕ)) (held : List ℕ) : Type 0 where
  pub rs : List Request
  pub counted : length rs ≡ n
  pub read : Told before now (λ bytes rest. BeginWith bytes rs (held ++ rest))

pub so_far_none : (a : Option (List ℕ)) → SoFar 0 a a []
so_far_none None = record { rs = []; counted = refl; read = tt }
so_far_none (Some bytes) = record { rs = []; counted = refl; read = refl }

begin_then : (rs ss : List Request) (bytes mid rest : List ℕ) → BeginWith bytes rs mid → BeginWith mid ss rest → BeginWith bytes (rs ++ ss) rest
begin_then [] ss bytes mid rest p q = subst (λ (t : List ℕ). BeginWith t ss rest) (sym p) q
begin_then (r ∷ rs) ss bytes mid rest (more, first, p) q = (more, first, begin_then rs ss more mid rest p q)

-- one more
pub so_far_on : (n : ℕ) (before mid now : Option (List ℕ)) (held holds : List ℕ) (r : Request) → SoFar n before mid held
    → Told mid now (λ bytes rest. First (held ++ bytes) (message r (holds ++ rest))) → SoFar (n + 1) before now holds
so_far_on n before mid now held holds r so told = record {
  rs = so.rs ++ r ∷ [];
  counted = length-append so.rs (r ∷ []) ∙ ap (λ (m : ℕ). m + 1) so.counted;
  read =
      told_then before mid now (λ bytes rest. BeginWith bytes so.rs (held ++ rest)) (λ bytes rest. First (held ++ bytes) (message r (holds ++ rest)))
      (λ bytes rest. BeginWith bytes (so.rs ++ r ∷ []) (holds ++ rest)) so.read told
      (λ x y z p q. begin_then so.rs (r ∷ []) x (held ++ y) (holds ++ z) p (holds ++ z, q, refl));
}

-- and the end
pub so_far_ends : (n : ℕ) (before mid after : Option (List ℕ)) (held : List ℕ) (served : Served) → SoFar n before mid held
    → LeavesFrom n mid after held served → Leaves before after served
so_far_ends n before mid after held served so last = record {
  rs = so.rs ++ last.rs;
  taken = last.taken;
  count = counted (length-append so.rs last.rs ∙ ap (λ (m : ℕ). m + length last.rs) so.counted) last.count;
  rest =
      told_then before mid after (λ bytes rest. BeginWith bytes so.rs (held ++ rest))
      (λ bytes rest. BeginWith (held ++ bytes) last.rs (last.taken ++ rest) × IsTaken served.end last.taken rest)
      (λ bytes rest. BeginWith bytes (so.rs ++ last.rs) (last.taken ++ rest) × IsTaken served.end last.taken rest) so.read last.rest
      (λ x y z p q. (begin_then so.rs last.rs x (held ++ y) (last.taken ++ z) p q.0, q.1));
}
  where
    counted : length (so.rs ++ last.rs) ≡ n + length last.rs → (n + length last.rs ≡ served.requests) ⊎ (n + length last.rs ≡ served.requests + 1)
        → (0 + length (so.rs ++ last.rs) ≡ served.requests) ⊎ (0 + length (so.rs ++ last.rs) ≡ served.requests + 1)
    counted size (inl e) = inl (omega (arith, size, e))
    counted size (inr e) = inr (omega (arith, size, e))

-- a request was read, and the reply to it may have been the last
pub request_leaves : (n : ℕ) (before mid after : Option (List ℕ)) (held holds : List ℕ) (r : Request) (result : Option Served) → after ≡ mid
    → Told before mid (λ left rest. First (held ++ left) (message r (holds ++ rest))) → (length held ≤ chunk → length holds ≤ chunk)
    → IfSome result (λ s. (s.requests ≡ n) ⊎ (s.requests ≡ n + 1))
    → IfSome result (λ served. length held ≤ chunk → LeavesFrom n before after held served)
request_leaves n before mid after held holds r None same told small count = tt
request_leaves n before mid after held holds r (Some served) same told small count = λ few.
    one_read n before after held holds r served
    (subst (λ (now : Option (List ℕ)). Told before now (λ left rest. First (held ++ left) (message r (holds ++ rest)))) (sym same) told) (small few) count
