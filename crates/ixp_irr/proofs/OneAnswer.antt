-- No text has two answers as a list of one kind.
use Rattle.std.proofs.Common.{◌≡◌, ◌≢◌, ℕ, suc, Bool, true, false, cond, List, [], ◌∷◌, ◌++◌, length, Result, Ok, Err, refl, sym, ap, ◌∙◌, subst, arith}
use Rattle.std.specs.List.{filter}
use Rattle.std.specs.Str.Lines.{lines}
use Rattle.std.proofs.lemmas.List.Elements.{filter-append}
use Rattle.ixp_num_sorted.specs.Sorted.{IsInOrder}
use Rattle.ixp_irr.specs.declared.fault.ListFault.{ListFault}
use Rattle.ixp_irr.specs.declared.fault.ListFault.TheVariants as fault
use Rattle.ixp_irr.specs.declared.fault.Misfit.{Misfit}
use Rattle.ixp_irr.specs.declared.fault.Misfit.TheVariants as misfit
use Rattle.ixp_irr.specs.Lists.{counts, AreItems, IsFirstFault, ListAnswer, Lists}
use Rattle.ixp_irr.proofs.OneList.{one_order}

module _ {A : Type 0} (says : List ℕ → Result A Misfit → Type 0) (one : (line : List ℕ) (x y : Result A Misfit) → says line x → says line y → x ≡ y) where
  items_one : (ls : List (List ℕ)) (xs ys : List A) → AreItems says ls xs → AreItems says ls ys → xs ≡ ys
  items_one [] [] [] a b = refl
  items_one [] [] (y ∷ ys) a b = absurd b
  items_one [] (x ∷ xs) ys a b = absurd a
  items_one (l ∷ ls) [] ys a b = absurd a
  items_one (l ∷ ls) (x ∷ xs) [] a b = absurd b
  items_one (l ∷ ls) (x ∷ xs) (y ∷ ys) a b =
      let same : ◌≡◌ {A = Result A Misfit} (Ok x) (Ok y) = one l (Ok x) (Ok y) a.0 b.0 in
      let first : x ≡ y = cc in
      ap (λ z. z ∷ xs) first ∙ ap (λ zs. y ∷ zs) (items_one ls xs ys a.1 b.1)

  -- each line that counts is an item, and so no fault
  item_at : (ls more : List (List ℕ)) (line : List ℕ) (items : List A) → AreItems says (ls ++ line ∷ more) items → (x : A) × says line (Ok x)
  item_at [] more line [] are = absurd are
  item_at [] more line (x ∷ xs) are = (x, are.0)
  item_at (l ∷ ls) more line [] are = absurd are
  item_at (l ∷ ls) more line (x ∷ xs) are = item_at ls more line xs are.1

  clash : (line : List ℕ) (x : A) (why : Misfit) → says line (Ok x) → says line (Err why) → ⊥
  clash line x why good bad = let same : ◌≡◌ {A = Result A Misfit} (Ok x) (Err why) = one line (Ok x) (Err why) good bad in let h : ⊥ = cc in h

  no_fault : (before after : List (List ℕ)) (line : List ℕ) (items : List A) (why : Misfit) → Lists says (before ++ line ∷ after) items → counts line ≡ true → says line (Err why) → ⊥
  no_fault before after line items why are count bad =
      let kept : filter counts (before ++ line ∷ after) ≡ filter counts before ++ line ∷ filter counts after =
      filter-append counts before (line ∷ after) ∙ ap (λ b. filter counts before ++ cond b (line ∷ filter counts after) (filter counts after)) count in
      let good = item_at (filter counts before) (filter counts after) line items (subst (λ ls. AreItems says ls items) kept are) in
      clash line good.0 why good.1 bad

  behind : (l : List ℕ) (ls : List (List ℕ)) (items : List A) → Lists says (l ∷ ls) items → (rest : List A) × Lists says ls rest
  behind l ls items are = by (counts l) items are where
    by : (b : Bool) (items : List A) → AreItems says (cond b (l ∷ filter counts ls) (filter counts ls)) items → (rest : List A) × Lists says ls rest
    by true [] are = absurd are
    by true (x ∷ xs) are = (xs, are.1)
    by false items are = (items, are)

  -- two first faults are at one line
  place_one : (b1 b2 a1 a2 : List (List ℕ)) (l1 l2 : List ℕ) (i1 i2 : List A) (w1 w2 : Misfit) → b1 ++ l1 ∷ a1 ≡ b2 ++ l2 ∷ a2 → Lists says b1 i1 → Lists says b2 i2 → counts l1 ≡ true → counts l2 ≡ true → says l1 (Err w1) → says l2 (Err w2)
      → (length b1 ≡ length b2) × (l1 ≡ l2)
  place_one [] [] a1 a2 l1 l2 i1 i2 w1 w2 e are1 are2 c1 c2 s1 s2 = (refl, cc)
  place_one [] (z ∷ zs) a1 a2 l1 l2 i1 i2 w1 w2 e are1 are2 c1 c2 s1 s2 =
      let same : l1 ≡ z = cc in
      absurd (no_fault [] zs z i2 w1 are2 (subst (λ l. counts l ≡ true) same c1) (subst (λ l. says l (Err w1)) same s1))
  place_one (z ∷ zs) [] a1 a2 l1 l2 i1 i2 w1 w2 e are1 are2 c1 c2 s1 s2 =
      let same : l2 ≡ z = cc in
      absurd (no_fault [] zs z i1 w2 are1 (subst (λ l. counts l ≡ true) same c2) (subst (λ l. says l (Err w2)) same s2))
  place_one (z ∷ zs) (w ∷ ws) a1 a2 l1 l2 i1 i2 w1 w2 e are1 are2 c1 c2 s1 s2 =
      let rest : zs ++ l1 ∷ a1 ≡ ws ++ l2 ∷ a2 = cc in
      let r1 = behind z zs i1 are1 in
      let r2 = behind w ws i2 are2 in
      let both = place_one zs ws a1 a2 l1 l2 r1.0 r2.0 w1 w2 rest r1.1 r2.1 c1 c2 s1 s2 in
      (ap suc both.0, both.1)

  faults_one : (all : List (List ℕ)) (w1 w2 : Misfit) (n1 n2 : ℕ) → IsFirstFault says all w1 n1 → IsFirstFault says all w2 n2 → (n1 ≡ n2) × (w1 ≡ w2)
  faults_one all w1 w2 n1 n2 (b1, a1, l1, i1, e1, are1, c1, s1, at1) (b2, a2, l2, i2, e2, are2, c2, s2, at2) =
      let both = place_one b1 b2 a1 a2 l1 l2 i1 i2 w1 w2 (sym e1 ∙ e2) are1 are2 c1 c2 s1 s2 in
      let size = both.0 in
      let same : ◌≡◌ {A = Result A Misfit} (Err w1) (Err w2) = one l2 (Err w1) (Err w2) (subst (λ l. says l (Err w1)) both.1 s1) s2 in
      (omega arith, cc)

  never : (all : List (List ℕ)) (items : List A) (why : Misfit) (n : ℕ) → Lists says all items → IsFirstFault says all why n → ⊥
  never all items why n are (b, a, l, i, e, before, count, bad, at) = no_fault b a l items why (subst (λ ls. Lists says ls items) e are) count bad

  module _ (key : A → List ℕ) (t : List ℕ) where
    lists_one : (xs ys : List A) (a b : List A) → Lists says (lines t) xs → Lists says (lines t) ys → IsInOrder key xs a → IsInOrder key ys b → a ≡ b
    lists_one xs ys a b one_ other up down = let same : ys ≡ xs = items_one (filter counts (lines t)) ys xs other one_ in one_order key xs a b up (subst (λ zs. IsInOrder key zs b) same down)

    pub one_answer : (x y : Result (List A) ListFault) → x ≢ Err fault.NoMemory → y ≢ Err fault.NoMemory → ListAnswer says key t x → ListAnswer says key t y → x ≡ y
    one_answer (Err fault.NoMemory) y some other a b = absurd (some refl)
    one_answer (Ok xs) (Err fault.NoMemory) some other a b = absurd (other refl)
    one_answer (Err (fault.Line m)) (Err fault.NoMemory) some other a b = absurd (other refl)
    one_answer (Err (fault.Family m)) (Err fault.NoMemory) some other a b = absurd (other refl)
    one_answer (Err (fault.TooLong m)) (Err fault.NoMemory) some other a b = absurd (other refl)
    one_answer (Ok xs) (Ok ys) some other a b = ap (λ zs. Ok zs) (lists_one a.0 b.0 xs ys a.1 b.1 a.2 b.2)
    one_answer (Ok xs) (Err (fault.Line n)) some other a b = absurd (never (lines t) a.0 misfit.Form n a.1 b)
    one_answer (Ok xs) (Err (fault.Family n)) some other a b = absurd (never (lines t) a.0 misfit.Family n a.1 b)
    one_answer (Ok xs) (Err (fault.TooLong n)) some other a b =
        absurd (let same : length xs ≡ length b.1 = ap length (lists_one a.0 b.0 xs b.1 a.1 b.2 a.2 b.3) in let few = a.3 in let have = b.4 in let many = b.5 in let h : ⊥ = omega arith in h)
    one_answer (Err (fault.Line m)) (Ok ys) some other a b = absurd (never (lines t) b.0 misfit.Form m b.1 a)
    one_answer (Err (fault.Line m)) (Err (fault.Line n)) some other a b = ap (λ k. Err (fault.Line k)) (faults_one (lines t) misfit.Form misfit.Form m n a b).0
    one_answer (Err (fault.Line m)) (Err (fault.Family n)) some other a b = absurd (let why = (faults_one (lines t) misfit.Form misfit.Family m n a b).1 in let h : ⊥ = cc in h)
    one_answer (Err (fault.Line m)) (Err (fault.TooLong n)) some other a b = absurd (never (lines t) b.0 misfit.Form m b.2 a)
    one_answer (Err (fault.Family m)) (Ok ys) some other a b = absurd (never (lines t) b.0 misfit.Family m b.1 a)
    one_answer (Err (fault.Family m)) (Err (fault.Line n)) some other a b = absurd (let why = (faults_one (lines t) misfit.Family misfit.Form m n a b).1 in let h : ⊥ = cc in h)
    one_answer (Err (fault.Family m)) (Err (fault.Family n)) some other a b = ap (λ k. Err (fault.Family k)) (faults_one (lines t) misfit.Family misfit.Family m n a b).0
    one_answer (Err (fault.Family m)) (Err (fault.TooLong n)) some other a b = absurd (never (lines t) b.0 misfit.Family m b.2 a)
    one_answer (Err (fault.TooLong m)) (Ok ys) some other a b =
        absurd (let same : length ys ≡ length a.1 = ap length (lists_one b.0 a.0 ys a.1 b.1 a.2 b.2 a.3) in let few = b.3 in let have = a.4 in let many = a.5 in let h : ⊥ = omega arith in h)
    one_answer (Err (fault.TooLong m)) (Err (fault.Line n)) some other a b = absurd (never (lines t) a.0 misfit.Form n a.2 b)
    one_answer (Err (fault.TooLong m)) (Err (fault.Family n)) some other a b = absurd (never (lines t) a.0 misfit.Family n a.2 b)
    one_answer (Err (fault.TooLong m)) (Err (fault.TooLong n)) some other a b =
        let same : length a.1 ≡ length b.1 = ap length (lists_one a.0 b.0 a.1 b.1 a.2 b.2 a.3 b.3) in
        let have = a.4 in
        let others = b.4 in
        let count : m ≡ n = omega arith in
        ap (λ k. Err (fault.TooLong k)) count
