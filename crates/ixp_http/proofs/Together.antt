-- Reads that follow each other, and what they answer.
use Rattle.std.proofs.Common.{◌≡◌, ◌≤◌, ◌+◌, ℕ, Option, None, Some, Result, Ok, Err, List, ◌++◌, length, refl, sym, ap, ◌∙◌, subst, append_assoc, arith}
use Rattle.ixp_io.specs.Told.{Told, WhereTold, Moves}
use Rattle.ixp_http.specs.declared.next.Next.{Next}
use Rattle.ixp_http.specs.declared.next.Next.TheVariants.{Request as Found, End}
use Rattle.ixp_http.specs.declared.next.HttpFault.{HttpFault}
use Rattle.ixp_http.specs.declared.next.HttpFault.TheVariants.{Bad, Cut, ReadFault, WriteFault, NoMemory}
use Rattle.ixp_http.specs.Heads.{chunk}
use Rattle.ixp_http.specs.Messages.{Reading, message, closed, cut, bad}
use Rattle.ixp_http.specs.Answers.{Leaves, LeavesAt, Together, TakesUpTo, Tells, most_held}

-- nothing was read yet
pub together_none : (a : Option (List ℕ)) (held : List ℕ) → Together a a held held
together_none None held = tt
together_none (Some left) held = refl

-- two reads in a row
pub together_then : (a b c : Option (List ℕ)) (x y z : List ℕ) → Together a b x y → Together b c y z → Together a c x z
together_then None None c x y z p q = q_of c q
  where
    q_of : (c : Option (List ℕ)) → Together None c y z → Together None c x z
    q_of None q = tt
    q_of (Some rest) q = q
together_then None (Some v) c x y z p q = absurd p
together_then (Some u) None c x y z p q = absurd p
together_then (Some u) (Some v) None x y z p q = q
together_then (Some u) (Some v) (Some w) x y z p q = p ∙ q

-- from what is told of the bytes before and after to what is answered
pub told_by : (a b : Option (List ℕ)) (R S : List ℕ → List ℕ → Type 0) → Told a b R → ((left rest : List ℕ) → R left rest → S left rest) → Told a b S
told_by None None R S p f = tt
told_by None (Some rest) R S p f = p
told_by (Some left) None R S p f = p
told_by (Some left) (Some rest) R S p f = f left rest p

-- the same with what is told after
pub told_with : (a b : Option (List ℕ)) (R S : List ℕ → List ℕ → Type 0) (P : List ℕ → Type 0) → Told a b R → WhereTold b P
    → ((left rest : List ℕ) → R left rest → P rest → S left rest) → Told a b S
told_with None None R S P p q f = tt
told_with None (Some rest) R S P p q f = p
told_with (Some left) None R S P p q f = p
told_with (Some left) (Some rest) R S P p q f = f left rest p q

-- what was read before a call: what it answers of all that is held and left then, it answers of what was held and left
-- before
told_three : (P Q : List ℕ → Reading → Type 0) (a b c : Option (List ℕ)) (x y : List ℕ) (w : List ℕ → Reading)
    → Together a b x y → WhereTold b (λ rest. (v : Reading) → P (y ++ rest) v → Q (y ++ rest) v)
    → Told b c (λ left rest. P (y ++ left) (w rest)) → Told a c (λ left rest. Q (x ++ left) (w rest))
told_three P Q None None None x y w p k t = tt
told_three P Q None None (Some m) x y w p k t = t
told_three P Q None (Some l) c x y w p k t = absurd p
told_three P Q (Some u) None c x y w p k t = absurd p
told_three P Q (Some u) (Some l) None x y w p k t = t
told_three P Q (Some u) (Some l) (Some m) x y w p k t = subst (λ (bytes : List ℕ). Q bytes (w m)) (sym p) (k (w m) t)

pub tells_after : (P Q : List ℕ → Reading → Type 0) (a b c : Option (List ℕ)) (x y z : List ℕ) (r : Result Next HttpFault)
    → Together a b x y → WhereTold b (λ rest. (v : Reading) → P (y ++ rest) v → Q (y ++ rest) v)
    → Tells P b c y z r → Tells Q a c x z r
tells_after P Q a b c x y z (Ok (Found r)) p k t = told_three P Q a b c x y (λ rest. message r (z ++ rest)) p k t
tells_after P Q a b c x y z (Ok End) p k t = told_three P Q a b c x y (λ rest. closed) p k t
tells_after P Q a b c x y z (Err (Bad status)) p k t = told_three P Q a b c x y (λ rest. bad status) p k t
tells_after P Q a b c x y z (Err Cut) p k t = told_three P Q a b c x y (λ rest. cut) p k t
tells_after P Q a b c x y z (Err ReadFault) p k t = tt
tells_after P Q a b c x y z (Err WriteFault) p k t = tt
tells_after P Q a b c x y z (Err NoMemory) p k t = tt

-- what is known of any bytes is known where they are told
pub where_any : (b : Option (List ℕ)) (P : List ℕ → Type 0) → ((rest : List ℕ) → P rest) → WhereTold b P
where_any None P f = tt
where_any (Some rest) P f = f rest

pub where_by : (b : Option (List ℕ)) (P Q : List ℕ → Type 0) → WhereTold b P → ((rest : List ℕ) → P rest → Q rest) → WhereTold b Q
where_by None P Q p f = tt
where_by (Some rest) P Q p f = f rest p

-- nothing was read
pub taken_none : (most : ℕ) (a b : Option (List ℕ)) (held : List ℕ) → b ≡ a → length held ≤ most → TakesUpTo most a b held
taken_none most a b held same few =
    (held, few, subst (λ (now : Option (List ℕ)). Together a now held held) (sym same) (together_none a held))

-- these bytes were read
pub taken_moved : (most : ℕ) (a b : Option (List ℕ)) (held bytes : List ℕ) → Moves a b bytes → length (held ++ bytes) ≤ most → TakesUpTo most a b held
taken_moved most a b held bytes moves few = (
  held ++ bytes,
  few,
  told_by a b (λ left rest. left ≡ bytes ++ rest) (λ left rest. held ++ left ≡ (held ++ bytes) ++ rest) moves
      (λ left rest e. ap (λ (t : List ℕ). held ++ t) e ∙ sym (append_assoc held bytes rest)),
)

-- what was read before, and what was taken then
pub taken_then : (most : ℕ) (a b c : Option (List ℕ)) (x y : List ℕ) → Together a b x y → TakesUpTo most b c y → TakesUpTo most a c x
taken_then most a b c x y p (taken, few, q) = (taken, few, together_then a b c x y taken p q)

pub taken_all : (most : ℕ) (a b : Option (List ℕ)) (x y : List ℕ) → Together a b x y → length y ≤ most → TakesUpTo most a b x
taken_all most a b x y p few = (y, few, p)

pub taken_wide : (most more : ℕ) (a b : Option (List ℕ)) (x : List ℕ) → most ≤ more → TakesUpTo most a b x → TakesUpTo more a b x
taken_wide most more a b x le (taken, few, p) = (taken, omega (arith, few, le), p)

-- what a fault leaves, where so much was taken
pub leaves_err : (a b : Option (List ℕ)) (held holds : List ℕ) (result : Result Next HttpFault) (fault : HttpFault) → result ≡ Err fault
    → (length held ≤ most_held → TakesUpTo most_held a b held) → Leaves a b held holds result
leaves_err a b held holds result fault is taken = subst (λ (r : Result Next HttpFault). Leaves a b held holds r) (sym is) taken

-- what is left behind a head, and what was read before
pub leaves_headed : (at : ℕ) (a b c : Option (List ℕ)) (held mid holds : List ℕ) (result : Result Next HttpFault) → Together a b held mid
    → (length held ≤ chunk → length mid ≤ at + chunk) → (length held ≤ most_held → length mid ≤ most_held)
    → LeavesAt at b c mid holds result → Leaves a c held holds result
leaves_headed at a b c held mid holds (Ok (Found r)) p one few leaves = λ small. leaves (one small)
leaves_headed at a b c held mid holds (Ok End) p one few leaves = λ small. taken_then most_held a b c held mid p (leaves (few small))
leaves_headed at a b c held mid holds (Err fault) p one few leaves = λ small. taken_then most_held a b c held mid p (leaves (few small))
