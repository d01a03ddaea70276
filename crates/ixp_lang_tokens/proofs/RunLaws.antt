-- Runs of bytes: what is read is the longest run, and the longest run is read.
use Rattle.std.proofs.Common.{◌≡◌, ℕ, Bool, true, false, List, [], ◌∷◌, ◌++◌, refl, sym, ap, arith, subst, if◌then◌else◌}
use Rattle.std.specs.List.{list_all}
use Rattle.std.proofs.lemmas.Bool.{and_parts}
use Rattle.std.proofs.lemmas.List.{length-append, take_at}
use Rattle.ixp_lang_tokens.specs.declared.runs.Class.{Class}
use Rattle.ixp_lang_tokens.specs.Bytes.{is_in, begins_with, Run}
use Rattle.ixp_lang_tokens.specs.Cutting.{run_of, behind_run, before}

-- what stands before the rest of a text with that rest
pub before_append : (front rest : List ℕ) → before (front ++ rest) rest ≡ front
before_append front rest = take_at front rest _ (omega (arith, length-append front rest))

-- a run at the front and what is behind it are the text
parts_step : (class : Class) (b : ℕ) (bs : List ℕ) → bs ≡ run_of class bs ++ behind_run class bs → (t : Bool)
    → ◌≡◌ {A = List ℕ} (b ∷ bs) ((if t then b ∷ run_of class bs else []) ++ (if t then behind_run class bs else b ∷ bs))
parts_step class b bs again true = ap (λ x. b ∷ x) again
parts_step class b bs again false = refl

pub run_parts : (class : Class) (text : List ℕ) → text ≡ run_of class text ++ behind_run class text
run_parts class [] = refl
run_parts class (b ∷ bs) = parts_step class b bs (run_parts class bs) (is_in class b)

pub run_is_before : (class : Class) (text : List ℕ) → before text (behind_run class text) ≡ run_of class text
run_is_before class text =
    let P : List ℕ → Type 0 = λ t. before t (behind_run class text) ≡ run_of class text in
    subst P (sym (run_parts class text)) (before_append (run_of class text) (behind_run class text))

-- all of the run is of the class
all_step : (class : Class) (b : ℕ) (bs : List ℕ) → list_all (is_in class) (run_of class bs) ≡ true → (t : Bool) → is_in class b ≡ t
    → list_all (is_in class) (if t then b ∷ run_of class bs else []) ≡ true
all_step class b bs again true e = rw e again
all_step class b bs again false e = refl

pub run_all : (class : Class) (text : List ℕ) → list_all (is_in class) (run_of class text) ≡ true
run_all class [] = refl
run_all class (b ∷ bs) = all_step class b bs (run_all class bs) (is_in class b) refl

ends_step : (class : Class) (b : ℕ) (bs : List ℕ) → (begins_with (is_in class) (behind_run class bs) ≡ false) → (t : Bool) → is_in class b ≡ t
    → (begins_with (is_in class) (if t then behind_run class bs else b ∷ bs) ≡ false)
ends_step class b bs again true e = again
ends_step class b bs again false e = e

pub run_ends : (class : Class) (text : List ℕ) → (begins_with (is_in class) (behind_run class text) ≡ false)
run_ends class [] = refl
run_ends class (b ∷ bs) = ends_step class b bs (run_ends class bs) (is_in class b) refl

-- what is read is the longest run
pub run_sound : (class : Class) (text : List ℕ) → Run class text (run_of class text) (behind_run class text)
run_sound class text = (run_parts class text, run_all class text, run_ends class text)

-- the longest run is read
run_stops : (class : Class) (rest : List ℕ) → (begins_with (is_in class) rest ≡ false) → run_of class rest ≡ []
run_stops class [] e = refl
run_stops class (b ∷ bs) e = rw e refl

behind_stops : (class : Class) (rest : List ℕ) → (begins_with (is_in class) rest ≡ false) → behind_run class rest ≡ rest
behind_stops class [] e = refl
behind_stops class (b ∷ bs) e = rw e refl

pub run_again : (class : Class) (run rest : List ℕ) → list_all (is_in class) run ≡ true → (begins_with (is_in class) rest ≡ false) → run_of class (run ++ rest) ≡ run
run_again class [] rest all e = run_stops class rest e
run_again class (b ∷ bs) rest all e =
    let p : (is_in class b ≡ true) × (list_all (is_in class) bs ≡ true) = and_parts _ _ all in
    rw p.0 (ap (λ x. b ∷ x) (run_again class bs rest p.1 e))

pub behind_again : (class : Class) (run rest : List ℕ) → list_all (is_in class) run ≡ true → (begins_with (is_in class) rest ≡ false) → behind_run class (run ++ rest) ≡ rest
behind_again class [] rest all e = behind_stops class rest e
behind_again class (b ∷ bs) rest all e =
    let p : (is_in class b ≡ true) × (list_all (is_in class) bs ≡ true) = and_parts _ _ all in
    rw p.0 (behind_again class bs rest p.1 e)

pub run_complete : (class : Class) (text run rest : List ℕ) → Run class text run rest → (run_of class text ≡ run) × (behind_run class text ≡ rest)
run_complete class text run rest (is, all, ends) = (
  let P : List ℕ → Type 0 = λ t. run_of class t ≡ run in subst P (sym is) (run_again class run rest all ends),
  let P : List ℕ → Type 0 = λ t. behind_run class t ≡ rest in subst P (sym is) (behind_again class run rest all ends),
)
