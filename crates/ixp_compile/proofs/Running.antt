-- How statements run one after the other.
use Rattle.std.proofs.Common.{◌≡◌, Bool, true, false, not, List, [], ◌∷◌, ◌++◌, refl, ap, ◌∙◌, if◌then◌else◌}
use Rattle.ixp_lang.specs.declared.route.Route.{Route}
use Rattle.ixp_lang.specs.Trees.{StmtTree, stmts}
use Rattle.ixp_lang.specs.Meaning.{Environment, Known, Params, End, runs, runs_all}

-- what follows a list of statements runs behind them
pub runs_append : (env : Environment) (k : Known) (ps : Params) (xs ys : List StmtTree) (route : Route) (next : Route → End)
    → runs_all env k ps (stmts (xs ++ ys)) route next ≡ runs_all env k ps (stmts xs) route (λ q. runs_all env k ps (stmts ys) q next)
runs_append env k ps [] ys route next = refl
runs_append env k ps (x ∷ xs) ys route next = λ i. runs env k ps x route (λ q. runs_append env k ps xs ys q next i)

-- the same of two choices whose parts agree
pub choose : {A B : Type 0} (f : A → B) (b : Bool) {x y : B} {u v : A} → x ≡ f u → y ≡ f v → (if b then x else y) ≡ f (if b then u else v)
choose f true p q = p
choose f false p q = q

-- the same where the tests are equal
pub chooses : {A B : Type 0} (f : A → B) {a b : Bool} {x y : B} {u v : A} → a ≡ b → x ≡ f u → y ≡ f v
    → (if a then x else y) ≡ f (if b then u else v)
chooses f {a} {b} {x} {y} e p q = ap (λ c. if c then x else y) e ∙ choose f b p q

pub if_same : {A : Type 0} (b : Bool) {x y u v : A} → x ≡ u → y ≡ v → (if b then x else y) ≡ (if b then u else v)
if_same true p q = p
if_same false p q = q

-- a choice by a test that is told to each part
pub chosen_by : {A B : Type 0} (f : A → B) (b : Bool) {x y : B} {u v : A} → (b ≡ true → x ≡ f u) → (b ≡ false → y ≡ f v)
    → (if b then x else y) ≡ f (if b then u else v)
chosen_by f true p q = p refl
chosen_by f false p q = q refl

-- the same, of a test that is turned round
pub unless : {A : Type 0} {a b : Bool} {x y u v : A} → a ≡ b → x ≡ u → y ≡ v → (if not a then x else y) ≡ (if b then v else u)
unless {a} {b} {x} {y} {u} {v} e p q = ap (λ c. if not c then x else y) e ∙ go b p q where
  go : (b : Bool) → x ≡ u → y ≡ v → (if not b then x else y) ≡ (if b then v else u)
  go true p q = q
  go false p q = p
