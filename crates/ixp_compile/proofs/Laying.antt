-- What is known behind items in the order of a text, and which filter has a name there.
use Rattle.std.proofs.Common.{◌≡◌, ℕ, true, false, List, [], ◌∷◌, ◌++◌, reverse, Some, refl, sym, ap, ◌∙◌, append-nil, append_assoc, if◌then◌else◌}
use Rattle.std.specs.List.{AllByRecursion}
use Rattle.std.proofs.lemmas.List.{reverse-append}
use Rattle.ixp_lang.specs.declared.value.SetLit.{SetLit}
use Rattle.ixp_lang.specs.Trees.{StmtTrees, ItemTree, router_id_item, table_item, define_item, function_item, filter_item, device_item, pipe_item, bgp_item}
use Rattle.ixp_lang.specs.Meaning.{Environment, Known, returns, same_name, means, bind, body_of, after, known, filter_of, function_of}
use Rattle.ixp_compile.specs.Pieces.{defined}
use Rattle.ixp_compile.specs.Shared.{IsNamed}
use Rattle.ixp_compile.proofs.Communities.{eq_refl}

pub same_refl : (n : List ℕ) → same_name n n ≡ true
same_refl [] = refl
same_refl (a ∷ n) = rw (eq_refl a) (same_refl n)

-- these items, in the order of the text, behind those of which the last stands first
abbrev pub laid : List ItemTree → List ItemTree → List ItemTree
laid [] behind = behind
laid (i ∷ items) behind = laid items (i ∷ behind)

pub laid_append : (xs ys behind : List ItemTree) → laid (xs ++ ys) behind ≡ laid ys (laid xs behind)
laid_append [] ys behind = refl
laid_append (x ∷ xs) ys behind = laid_append xs ys (x ∷ behind)

reverse_onto : (xs behind : List ItemTree) → reverse xs ++ behind ≡ laid xs behind
reverse_onto [] behind = refl
reverse_onto (x ∷ xs) behind =
    ap (λ l. l ++ behind) (reverse-append (x ∷ []) xs) ∙ append_assoc (reverse xs) (x ∷ []) behind ∙ reverse_onto xs (x ∷ behind)

pub reverse_laid : (xs : List ItemTree) → reverse xs ≡ laid xs []
reverse_laid xs = sym (append-nil (reverse xs)) ∙ reverse_onto xs []

pub all_append : (P : ItemTree → Type 0) (xs ys : List ItemTree) → AllByRecursion P xs → AllByRecursion P ys → AllByRecursion P (xs ++ ys)
all_append P [] ys p q = q
all_append P (x ∷ xs) ys p q = (p.0, all_append P xs ys p.1 q)

-- Defined values.

-- the item gives the name no value
abbrev pub GivesNone : List ℕ → ItemTree → Type 0
GivesNone n (define_item m e) = same_name n m ≡ false
GivesNone n (router_id_item a) = Unit {0}
GivesNone n (table_item t m) = Unit {0}
GivesNone n (function_item m qs ss) = Unit {0}
GivesNone n (filter_item m ss) = Unit {0}
GivesNone n (device_item m) = Unit {0}
GivesNone n (pipe_item p) = Unit {0}
GivesNone n (bgp_item b) = Unit {0}

value_after : (env : Environment) (n : List ℕ) (i : ItemTree) (k : Known) → GivesNone n i → (after env i k).value n ≡ k.value n
value_after env n (define_item m e) k other = ap (λ b. λ route. if b then means env k [] e route returns else k.value n route) other
value_after env n (router_id_item a) k other = refl
value_after env n (table_item t m) k other = refl
value_after env n (function_item m qs ss) k other = refl
value_after env n (filter_item m ss) k other = refl
value_after env n (device_item m) k other = refl
value_after env n (pipe_item p) k other = refl
value_after env n (bgp_item b) k other = refl

pub value_kept : (env : Environment) (n : List ℕ) (items behind : List ItemTree) → AllByRecursion (GivesNone n) items
    → (known env (laid items behind)).value n ≡ (known env behind).value n
value_kept env n [] behind all = refl
value_kept env n (i ∷ items) behind all = value_kept env n items (i ∷ behind) all.1 ∙ value_after env n i (known env behind) all.0

pub named_kept : {A : Type 0} (env : Environment) (n : List ℕ) (made : List A → SetLit) (xs : List A) (items behind : List ItemTree)
    → AllByRecursion (GivesNone n) items → IsNamed (known env behind) n made xs → IsNamed (known env (laid items behind)) n made xs
named_kept env n made [] items behind all is = tt
named_kept env n made (x ∷ xs) items behind all is = λ route. ap (λ f. f route) (value_kept env n items behind all) ∙ is route

pub defined_named : {A : Type 0} (env : Environment) (n : List ℕ) (made : List A → SetLit) (xs : List A) (behind : List ItemTree)
    → IsNamed (known env (laid (defined n made xs) behind)) n made xs
defined_named env n made [] behind = tt
defined_named env n made (x ∷ xs) behind = λ route. rw (same_refl n) refl

-- other names are defined
pub defined_others : {A : Type 0} (n m : List ℕ) (made : List A → SetLit) (xs : List A) → same_name n m ≡ false
    → AllByRecursion (GivesNone n) (defined m made xs)
defined_others n m made [] other = tt
defined_others n m made (x ∷ xs) other = (other, tt)

-- Functions.

-- the item is no function of the name
abbrev pub CallsNone : List ℕ → ItemTree → Type 0
CallsNone n (function_item m qs ss) = same_name n m ≡ false
CallsNone n (define_item m e) = Unit {0}
CallsNone n (router_id_item a) = Unit {0}
CallsNone n (table_item t m) = Unit {0}
CallsNone n (filter_item m ss) = Unit {0}
CallsNone n (device_item m) = Unit {0}
CallsNone n (pipe_item p) = Unit {0}
CallsNone n (bgp_item b) = Unit {0}

call_after : (env : Environment) (n : List ℕ) (i : ItemTree) (k : Known) → CallsNone n i → (after env i k).call n ≡ k.call n
call_after env n (function_item m qs ss) k other = ap (λ b. λ vs route. if b then body_of env k (bind qs vs) ss route else k.call n vs route) other
call_after env n (define_item m e) k other = refl
call_after env n (router_id_item a) k other = refl
call_after env n (table_item t m) k other = refl
call_after env n (filter_item m ss) k other = refl
call_after env n (device_item m) k other = refl
call_after env n (pipe_item p) k other = refl
call_after env n (bgp_item b) k other = refl

pub call_kept : (env : Environment) (n : List ℕ) (items behind : List ItemTree) → AllByRecursion (CallsNone n) items
    → (known env (laid items behind)).call n ≡ (known env behind).call n
call_kept env n [] behind all = refl
call_kept env n (i ∷ items) behind all = call_kept env n items (i ∷ behind) all.1 ∙ call_after env n i (known env behind) all.0

-- Filters.

-- the item is no filter of the name
abbrev pub FiltersNone : List ℕ → ItemTree → Type 0
FiltersNone n (filter_item m ss) = same_name m n ≡ false
FiltersNone n (function_item m qs ss) = Unit {0}
FiltersNone n (define_item m e) = Unit {0}
FiltersNone n (router_id_item a) = Unit {0}
FiltersNone n (table_item t m) = Unit {0}
FiltersNone n (device_item m) = Unit {0}
FiltersNone n (pipe_item p) = Unit {0}
FiltersNone n (bgp_item b) = Unit {0}

filter_after : (n : List ℕ) (i : ItemTree) (items : List ItemTree) → FiltersNone n i → filter_of (i ∷ items) n ≡ filter_of items n
filter_after n (filter_item m ss) items other = rw other refl
filter_after n (function_item m qs ss) items other = refl
filter_after n (define_item m e) items other = refl
filter_after n (router_id_item a) items other = refl
filter_after n (table_item t m) items other = refl
filter_after n (device_item m) items other = refl
filter_after n (pipe_item p) items other = refl
filter_after n (bgp_item b) items other = refl

-- behind a filter no other one has its name
pub filter_kept : (n : List ℕ) (items behind : List ItemTree) → AllByRecursion (FiltersNone n) items
    → filter_of (laid items behind) n ≡ filter_of behind n
filter_kept n [] behind all = refl
filter_kept n (i ∷ items) behind all = filter_kept n items (i ∷ behind) all.1 ∙ filter_after n i behind all.0

pub filter_there : (n : List ℕ) (ss : StmtTrees) (behind : List ItemTree) → filter_of (filter_item n ss ∷ behind) n ≡ Some (behind, ss)
filter_there n ss behind = rw (same_refl n) refl

-- Functions that are asked for their value.

-- the item is no function of the name
abbrev pub FunctionsNone : List ℕ → ItemTree → Type 0
FunctionsNone n (function_item m qs ss) = same_name m n ≡ false
FunctionsNone n (filter_item m ss) = Unit {0}
FunctionsNone n (define_item m e) = Unit {0}
FunctionsNone n (router_id_item a) = Unit {0}
FunctionsNone n (table_item t m) = Unit {0}
FunctionsNone n (device_item m) = Unit {0}
FunctionsNone n (pipe_item p) = Unit {0}
FunctionsNone n (bgp_item b) = Unit {0}

function_after : (n : List ℕ) (i : ItemTree) (items : List ItemTree) → FunctionsNone n i → function_of (i ∷ items) n ≡ function_of items n
function_after n (function_item m qs ss) items other = rw other refl
function_after n (filter_item m ss) items other = refl
function_after n (define_item m e) items other = refl
function_after n (router_id_item a) items other = refl
function_after n (table_item t m) items other = refl
function_after n (device_item m) items other = refl
function_after n (pipe_item p) items other = refl
function_after n (bgp_item b) items other = refl

pub function_kept : (n : List ℕ) (items behind : List ItemTree) → AllByRecursion (FunctionsNone n) items
    → function_of (laid items behind) n ≡ function_of behind n
function_kept n [] behind all = refl
function_kept n (i ∷ items) behind all = function_kept n items (i ∷ behind) all.1 ∙ function_after n i behind all.0
