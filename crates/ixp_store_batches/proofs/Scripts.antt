-- How the rows of one list become those of another: some stay, some go, some come. Where each name stands once in both, dropping
-- those that go and then setting those that come makes the table of the one the table of the other.
use Rattle.std.specs.Prelude.{⊤}
use Rattle.std.proofs.Common.{◌≡◌, List, [], ◌∷◌, ◌++◌, map, ℕ, Bool, Option, Some, None, true, false, cond, not, ◌||◌, refl, sym, ap, subst, ◌∙◌}
use Rattle.std.specs.Cmp.{tied_itself}
use Rattle.std.specs.Ordering.{is_eq, eq_by_cmp}
use Rattle.std.specs.FinMap.{get, empty, insert, remove, get-insert, get-remove, get-empty}
use Rattle.std.specs.List.{AllByRecursion}
use Rattle.std.proofs.lemmas.Map.Views.{tells_apart}
use Rattle.ixp_io.specs.declared.keeper.RowName.{RowName}
use Rattle.ixp_io.specs.declared.keeper.Change.{Change}
use Rattle.ixp_io.specs.Tables.{Table, changed, name_cmp, set}
use Rattle.ixp_io.proofs.Rows.{name_total, name_same, same_rows}
use Rattle.ixp_store_rows.specs.Names.{Entry}
use Rattle.ixp_store_rows.specs.States.{set_row, drop_row}

abbrev pub is_name : RowName → RowName → Bool
is_name q n = eq_by_cmp name_cmp q n

-- the names of the rows are all others than this one
abbrev pub Others : RowName → List Entry → Type 0
Others q es = AllByRecursion (λ e. is_name q e.0 ≡ false) es

-- each name stands once
abbrev pub Once : List Entry → Type 0
Once [] = ⊤
Once (e ∷ es) = Others e.0 es × Once es

-- the rows A become the rows B: those of R go, those of S come, all others stay
pub data Script : List Entry → List Entry → List Entry → List Entry → Type 0 where
  done : Script [] [] [] []
  stays : (e : Entry) (A B R S : List Entry) → Script A B R S → Script (e ∷ A) (e ∷ B) R S
  goes : (e : Entry) (A B R S : List Entry) → Script A B R S → Script (e ∷ A) B (e ∷ R) S
  comes : (e : Entry) (A B R S : List Entry) → Script A B R S → Script A (e ∷ B) R (e ∷ S)

-- what the rows have of a name, the first with it
abbrev look : RowName → List Entry → Option (List ℕ)
look q [] = None
look q (e ∷ es) = cond (is_name q e.0) (Some e.1) (look q es)

abbrev has : RowName → List Entry → Bool
has q [] = false
has q (e ∷ es) = is_name q e.0 || has q es

-- what is said first, else the other
abbrev or_else : {X : Type 0} → Option X → Option X → Option X
or_else (Some x) o = Some x
or_else None o = o

or_none : {X : Type 0} (o : Option X) → or_else o None ≡ o
or_none (Some x) = refl
or_none None = refl

look_other : (q : RowName) (es : List Entry) → Others q es → look q es ≡ None
look_other q [] all = refl
look_other q (e ∷ es) all = ap (λ b. cond b (Some e.1) (look q es)) all.0 ∙ look_other q es all.1

has_other : (q : RowName) (es : List Entry) → Others q es → has q es ≡ false
has_other q [] all = refl
has_other q (e ∷ es) all = ap (λ b. b || has q es) all.0 ∙ has_other q es all.1

others_as : (q n : RowName) (es : List Entry) → is_name q n ≡ true → Others n es → Others q es
others_as q n es same = subst (λ x. Others x es) (sym (tells_apart name_same q n same))

-- what goes was there, and what comes is there
gone_others : (q : RowName) (A B R S : List Entry) → Script A B R S → Others q A → Others q R
gone_others q _ _ _ _ done all = tt
gone_others q _ _ _ _ (stays e A B R S s) all = gone_others q A B R S s all.1
gone_others q _ _ _ _ (goes e A B R S s) all = (all.0, gone_others q A B R S s all.1)
gone_others q _ _ _ _ (comes e A B R S s) all = gone_others q A B R S s all

come_others : (q : RowName) (A B R S : List Entry) → Script A B R S → Others q B → Others q S
come_others q _ _ _ _ done all = tt
come_others q _ _ _ _ (stays e A B R S s) all = come_others q A B R S s all.1
come_others q _ _ _ _ (goes e A B R S s) all = come_others q A B R S s all
come_others q _ _ _ _ (comes e A B R S s) all = (all.0, come_others q A B R S s all.1)

come_once : (A B R S : List Entry) → Script A B R S → Once B → Once S
come_once _ _ _ _ done once = tt
come_once _ _ _ _ (stays e A B R S s) once = come_once A B R S s once.1
come_once _ _ _ _ (goes e A B R S s) once = come_once A B R S s once
come_once _ _ _ _ (comes e A B R S s) once = (come_others e.0 A B R S s once.0, come_once A B R S s once.1)

-- what is there of a name after the rows of R went and those of S came
walk : (q : RowName) (A B R S : List Entry) → Script A B R S → Once A → Once B → or_else (look q S) (cond (has q R) None (look q A)) ≡ look q B
walk q _ _ _ _ done a b = refl
walk q _ _ _ _ (stays e A B R S s) a b = by_bool (walk q A B R S s a.1 b.1) (is_name q e.0) refl
  where
    by_bool : or_else (look q S) (cond (has q R) None (look q A)) ≡ look q B → (x : Bool) → is_name q e.0 ≡ x → or_else (look q S) (cond (has q R) None (cond (is_name q e.0) (Some e.1) (look q A))) ≡ cond (is_name q e.0) (Some e.1) (look q B)
    by_bool more true is =
        let no_new : look q S ≡ None = look_other q S (come_others q A B R S s (others_as q e.0 B is b.0)) in
        let no_old : has q R ≡ false = has_other q R (gone_others q A B R S s (others_as q e.0 A is a.0)) in
        ap (λ o. or_else o (cond (has q R) None (cond (is_name q e.0) (Some e.1) (look q A)))) no_new
        ∙ (ap (λ x. cond x None (cond (is_name q e.0) (Some e.1) (look q A))) no_old
        ∙ (ap (λ x. cond x (Some e.1) (look q A)) is ∙ sym (ap (λ x. cond x (Some e.1) (look q B)) is)))
    by_bool more false is =
        ap (λ x. or_else (look q S) (cond (has q R) None (cond x (Some e.1) (look q A)))) is
        ∙ (more ∙ sym (ap (λ x. cond x (Some e.1) (look q B)) is))
walk q _ _ _ _ (goes e A B R S s) a b = by_bool (walk q A B R S s a.1 b) (is_name q e.0) refl
  where
    nothing : (x : Bool) (o : Option (List ℕ)) → o ≡ None → cond x None o ≡ None
    nothing true o e = refl
    nothing false o e = e

    by_bool : or_else (look q S) (cond (has q R) None (look q A)) ≡ look q B → (x : Bool) → is_name q e.0 ≡ x → or_else (look q S) (cond (is_name q e.0 || has q R) None (cond (is_name q e.0) (Some e.1) (look q A))) ≡ look q B
    by_bool more true is =
        let no_other : look q A ≡ None = look_other q A (others_as q e.0 A is a.0) in
        ap (λ x. or_else (look q S) (cond (x || has q R) None (cond x (Some e.1) (look q A)))) is
        ∙ (ap (or_else (look q S)) (sym (nothing (has q R) (look q A) no_other)) ∙ more)
    by_bool more false is = ap (λ x. or_else (look q S) (cond (x || has q R) None (cond x (Some e.1) (look q A)))) is ∙ more
walk q _ _ _ _ (comes e A B R S s) a b = by_bool (walk q A B R S s a b.1) (is_name q e.0) refl
  where
    by_bool : or_else (look q S) (cond (has q R) None (look q A)) ≡ look q B → (x : Bool) → is_name q e.0 ≡ x → or_else (cond (is_name q e.0) (Some e.1) (look q S)) (cond (has q R) None (look q A)) ≡ cond (is_name q e.0) (Some e.1) (look q B)
    by_bool more true is =
        ap (λ x. or_else (cond x (Some e.1) (look q S)) (cond (has q R) None (look q A))) is ∙ sym (ap (λ x. cond x (Some e.1) (look q B)) is)
    by_bool more false is =
        ap (λ x. or_else (cond x (Some e.1) (look q S)) (cond (has q R) None (look q A))) is
        ∙ (more ∙ sym (ap (λ x. cond x (Some e.1) (look q B)) is))

-- a table after rows are set, each name once
get_set : (t : Table) (es : List Entry) (q : RowName) → Once es → get (changed t (map set_row es)) q ≡ or_else (look q es) (get t q)
get_set t [] q once = refl
get_set t (e ∷ es) q once = get_set (insert t e.0 e.1) es q once.1 ∙ (ap (or_else (look q es)) (get-insert name_total t e.0 e.1 q) ∙ by_bool (is_name q e.0) refl)
  where
    by_bool : (x : Bool) → is_name q e.0 ≡ x → or_else (look q es) (cond (is_name q e.0) (Some e.1) (get t q)) ≡ or_else (cond (is_name q e.0) (Some e.1) (look q es)) (get t q)
    by_bool true is =
        let none : look q es ≡ None = look_other q es (others_as q e.0 es is once.0) in
        ap (λ o. or_else o (cond (is_name q e.0) (Some e.1) (get t q))) none
        ∙ (ap (λ x. cond x (Some e.1) (get t q)) is ∙ sym (ap (λ x. or_else (cond x (Some e.1) (look q es)) (get t q)) is))
    by_bool false is =
        ap (λ x. or_else (look q es) (cond x (Some e.1) (get t q))) is ∙ sym (ap (λ x. or_else (cond x (Some e.1) (look q es)) (get t q)) is)

-- a table after rows are dropped
get_drop : (t : Table) (es : List Entry) (q : RowName) → get (changed t (map drop_row es)) q ≡ cond (has q es) None (get t q)
get_drop t [] q = refl
get_drop t (e ∷ es) q = get_drop (remove t e.0) es q ∙ (ap (cond (has q es) None) (get-remove name_total t e.0 q) ∙ both (has q es) (is_name q e.0))
  where
    both : (x y : Bool) → cond x None (cond y None (get t q)) ≡ cond (y || x) None (get t q)
    both true true = refl
    both true false = refl
    both false true = refl
    both false false = refl

changed_append : (t : Table) (xs ys : List Change) → changed t (xs ++ ys) ≡ changed (changed t xs) ys
changed_append t [] ys = refl
changed_append t (x ∷ xs) ys = changed_append (set t x.name x.body) xs ys

-- the table of rows
abbrev pub table_of : List Entry → Table
table_of es = changed empty (map set_row es)

get_table : (es : List Entry) (q : RowName) → Once es → get (table_of es) q ≡ look q es
get_table es q once = get_set empty es q once ∙ (ap (or_else (look q es)) (get-empty name_cmp q) ∙ or_none (look q es))

-- dropping what goes and setting what comes makes the table of the one list that of the other
pub script_makes : (A B R S : List Entry) → Script A B R S → Once A → Once B → changed (table_of A) (map drop_row R ++ map set_row S) ≡ table_of B
script_makes A B R S s a b = same_rows (changed (table_of A) (map drop_row R ++ map set_row S)) (table_of B) each
  where
    each : (q : RowName) → get (changed (table_of A) (map drop_row R ++ map set_row S)) q ≡ get (table_of B) q
    each q =
        ap (λ t. get t q) (changed_append (table_of A) (map drop_row R) (map set_row S))
        ∙ (get_set (changed (table_of A) (map drop_row R)) S q (come_once A B R S s b)
        ∙ (ap (or_else (look q S)) (get_drop (table_of A) R q ∙ ap (cond (has q R) None) (get_table A q a))
        ∙ (walk q A B R S s a b ∙ sym (get_table B q b))))

-- how scripts are made of others
pub unchanged : (A : List Entry) → Script A A [] []
unchanged [] = done
unchanged (e ∷ A) = stays e A A [] [] (unchanged A)

pub in_front : (P A B R S : List Entry) → Script A B R S → Script (P ++ A) (P ++ B) R S
in_front [] A B R S s = s
in_front (e ∷ P) A B R S s = stays e (P ++ A) (P ++ B) R S (in_front P A B R S s)

pub joined : (A B R S A' B' R' S' : List Entry) → Script A B R S → Script A' B' R' S' → Script (A ++ A') (B ++ B') (R ++ R') (S ++ S')
joined _ _ _ _ A' B' R' S' done t = t
joined _ _ _ _ A' B' R' S' (stays e A B R S s) t = stays e (A ++ A') (B ++ B') (R ++ R') (S ++ S') (joined A B R S A' B' R' S' s t)
joined _ _ _ _ A' B' R' S' (goes e A B R S s) t = goes e (A ++ A') (B ++ B') (R ++ R') (S ++ S') (joined A B R S A' B' R' S' s t)
joined _ _ _ _ A' B' R' S' (comes e A B R S s) t = comes e (A ++ A') (B ++ B') (R ++ R') (S ++ S') (joined A B R S A' B' R' S' s t)

pub before : (A B R S Q : List Entry) → Script A B R S → Script (A ++ Q) (B ++ Q) R S
before _ _ _ _ Q done = unchanged Q
before _ _ _ _ Q (stays e A B R S s) = stays e (A ++ Q) (B ++ Q) R S (before A B R S Q s)
before _ _ _ _ Q (goes e A B R S s) = goes e (A ++ Q) (B ++ Q) R S (before A B R S Q s)
before _ _ _ _ Q (comes e A B R S s) = comes e (A ++ Q) (B ++ Q) R S (before A B R S Q s)

all_come : (B : List Entry) → Script [] B [] B
all_come [] = done
all_come (e ∷ B) = comes e [] B [] B (all_come B)

-- all of the one list go, all of the other come
pub replaced : (A B : List Entry) → Script A B A B
replaced [] B = all_come B
replaced (e ∷ A) B = goes e A B A B (replaced A B)
