-- Writes that follow each other.
use Rattle.std.proofs.Common.{◌≡◌, ◌≤◌, ◌+◌, ◌-◌, ℕ, min, map, Result, Ok, Err, OnErr, Option, None, Some, List, ◌∷◌, ◌++◌, length, take, sym, ap, ◌∙◌, append_assoc, subst, arith}
use Rattle.std.proofs.lemmas.Grind.{common_steps}
use Rattle.ixp_io.specs.Told.{Told, Takes, TakesPart}
use Rattle.ixp_http.proofs.Starts.{take_over}
use Rattle.ixp_io.proofs.Streams.{Takes-then}
use Rattle.ixp_http.specs.Replies.{Holds, concat}

-- what is still to be written after what was written: these held bytes and the rest
abbrev pub Owes : Option (List ℕ) → Option (List ℕ) → List ℕ → List ℕ → List ℕ → Type 0
Owes before now holds rest all = Told before now (λ old new. (new ++ (holds ++ rest) ≡ old ++ all) × (length old ≤ length new))

pub owes_then : (a b c : Option (List ℕ)) (x y text rest all : List ℕ) → Owes a b x (text ++ rest) all → Holds b c x y text → Owes a c y rest all
owes_then None None None x y text rest all p q = tt
owes_then None None (Some w) x y text rest all p q = q
owes_then None (Some v) c x y text rest all p q = absurd p
owes_then (Some u) None c x y text rest all p q = absurd p
owes_then (Some u) (Some v) None x y text rest all p q = q
owes_then (Some u) (Some v) (Some w) x y text rest all p q = (
  sym (append_assoc w y rest) ∙ ap (λ (t : List ℕ). t ++ rest) q.0 ∙ regroup v x text rest ∙ p.0,
  omega arith,
)
  where
    regroup : (a b c d : List ℕ) → (a ++ (b ++ c)) ++ d ≡ a ++ (b ++ (c ++ d))
    regroup a b c d = simp append_assoc

first : (k : ℕ) (x y : List ℕ) → take (min k (length x)) (x ++ y) ≡ take k x
first k x y = grind (arith, common_steps)

-- of what is owed a first part was written
part_of : (u v w x rest all : List ℕ) (k : ℕ) → v ++ (x ++ rest) ≡ u ++ all → length u ≤ length v → w ≡ v ++ take k x
    → w ≡ u ++ take (length v + min k (length x) - length u) all
part_of u v w x rest all k p fits q =
    let count = min k (length x) in
    let most : count ≤ length x = omega arith in
    let same : take count (x ++ rest) ≡ take k x = first k x rest in
    let size : length v + count ≡ length u + (length v + count - length u) = omega arith in
    q ∙ ap (λ (t : List ℕ). v ++ t) (sym same) ∙ sym (take_over v (x ++ rest) count) ∙ ap (take (length v + count)) p
    ∙ ap (λ (n : ℕ). take n (u ++ all)) size ∙ take_over u all (length v + count - length u)

pub owes_part : (a b c : Option (List ℕ)) (x rest all : List ℕ) → Owes a b x rest all → TakesPart b c x → TakesPart a c all
owes_part None None None x rest all p q = (0, tt)
owes_part None None (Some w) x rest all p q = absurd q.1
owes_part None (Some v) c x rest all p q = absurd p
owes_part (Some u) None c x rest all p q = absurd p
owes_part (Some u) (Some v) None x rest all p q = absurd q.1
owes_part (Some u) (Some v) (Some w) x rest all p q =
    (length v + min q.0 (length x) - length u, part_of u v w x rest all q.0 p.0 p.1 q.1)

-- with the text that is added
pub owes_part_text : (a b c : Option (List ℕ)) (x text rest all : List ℕ) → Owes a b x (text ++ rest) all → TakesPart b c (x ++ text) → TakesPart a c all
owes_part_text a b c x text rest all p q = owes_part a b c (x ++ text) rest all (joined a b p) q
  where
    joined : (a b : Option (List ℕ)) → Owes a b x (text ++ rest) all → Owes a b (x ++ text) rest all
    joined None None p = tt
    joined None (Some v) p = p
    joined (Some u) None p = p
    joined (Some u) (Some v) p = (ap (λ (t : List ℕ). v ++ t) (append_assoc x text rest) ∙ p.0, p.1)

-- ---- the two ways to add a text

pub part_first : (a b : Option (List ℕ)) (x y : List ℕ) → TakesPart a b x → TakesPart a b (x ++ y)
part_first a b x y p =
    (min p.0 (length x), subst (Takes a b) (sym (first p.0 x y)) p.1)

pub part_then : (a b c : Option (List ℕ)) (x y : List ℕ) → Takes a b x → TakesPart b c y → TakesPart a c (x ++ y)
part_then a b c x y p q =
    (length x + q.0, subst (Takes a c) (sym (take_over x y q.0)) (Takes-then a b c x (take q.0 y) p q.1))

-- the same of a text that was held, and of a result
pub part_first_of : (a b : Option (List ℕ)) (x held y : List ℕ) → held ≡ x → TakesPart a b held → TakesPart a b (x ++ y)
part_first_of a b x held y is p = part_first a b x y (subst (TakesPart a b) is p)

-- the texts from one on
pub concat_next : {A : Type 0} (text : A → List ℕ) (parts : List A) (part : A) (rest : List A) → parts ≡ part ∷ rest
    → concat (map text parts) ≡ text part ++ concat (map text rest)
concat_next {A = A} text parts part rest is = ap (λ (t : List A). concat (map text t)) is

pub part_then_of : (a b c : Option (List ℕ)) (x held y : List ℕ) → held ≡ x → Takes a b held → TakesPart b c y → TakesPart a c (x ++ y)
part_then_of a b c x held y is p q = part_then a b c x y (subst (Takes a b) is p) q

-- a part more, or a fault at it
pub owes_next : {A : Type 0} (text : A → List ℕ) (parts : List A) (part : A) (rest : List A) (a b c : Option (List ℕ)) (x y all : List ℕ)
    → parts ≡ part ∷ rest → Owes a b x (concat (map text parts)) all → Holds b c x y (text part) → Owes a c y (concat (map text rest)) all
owes_next text parts part rest a b c x y all is p q =
    owes_then a b c x y (text part) (concat (map text rest)) all (subst (λ (t : List ℕ). Owes a b x t all) (concat_next text parts part rest is) p) q

pub owes_fault : {A : Type 0} (text : A → List ℕ) (parts : List A) (part : A) (rest : List A) (a b c : Option (List ℕ)) (x all : List ℕ)
    → parts ≡ part ∷ rest → Owes a b x (concat (map text parts)) all → TakesPart b c (x ++ text part) → TakesPart a c all
owes_fault text parts part rest a b c x all is p q =
    owes_part_text a b c x (text part) (concat (map text rest)) all (subst (λ (t : List ℕ). Owes a b x t all) (concat_next text parts part rest is) p) q

-- a fault at a text that is written behind what was held
pub add_err : {A E : Type 0} (a b c : Option (List ℕ)) (x held y : List ℕ) (r : Result A E) → held ≡ x → Takes a b held → OnErr r (TakesPart b c y) → OnErr r (TakesPart a c (x ++ y))
add_err a b c x held y (Ok v) is p q = tt
add_err a b c x held y (Err e) is p q = part_then_of a b c x held y is p q

-- a fault at the last texts that are held
pub last_err : {A E : Type 0} (a b c : Option (List ℕ)) (x held rest all : List ℕ) (r : Result A E) → held ≡ x → Owes a b x rest all → OnErr r (TakesPart b c held) → OnErr r (TakesPart a c all)
last_err a b c x held rest all (Ok v) is p q = tt
last_err a b c x held rest all (Err e) is p q = owes_part a b c x rest all p (subst (TakesPart b c) is q)

-- what holds is said of any answer
pub any_err : {A E : Type 0} (r : Result A E) (P : Type 0) → P → OnErr r P
any_err (Ok v) P p = tt
any_err (Err e) P p = p
