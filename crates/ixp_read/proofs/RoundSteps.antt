-- The rounds of the reader of configurations.
use Rattle.std.proofs.Common.{◌≡◌, ◌∙◌, ◌<◌, ℕ, suc, Bool, true, false, ◌||◌, ◌==◌, List, [], ◌∷◌, ◌++◌, length, Option, Some, None, codes, refl, sym, ap, Ok, Err, is_some, if◌then◌else◌, arith}
use Rattle.std.proofs.lemmas.Bool.Decides.{nat_tests}
use Rattle.std.proofs.lemmas.List.{map-append, length-map}
use Rattle.ixp_lang.specs.Trees.{ItemTree}
use Rattle.ixp_lang.specs.Views.{item_view}
use Rattle.ixp_lang.specs.declared.item.Item.{Item}
use Rattle.ixp_lang.specs.declared.item.Kind.TheVariants.{Ipv4, Ipv6, Roa4, Roa6}
use Rattle.ixp_lang_tokens.specs.declared.fault.Cause.{Cause}
use Rattle.ixp_lang_tokens.specs.declared.fault.Cause.TheVariants.{Unexpected}
use Rattle.ixp_lang_tokens.specs.declared.token.Kind.{Kind}
use Rattle.ixp_lang_tokens.specs.declared.token.Token.{Token}
use Rattle.ixp_lang_tokens.specs.Grammars.{Grammar, Step, onward, done, gives, sequence, choice, unless}
use Rattle.ixp_lang_tokens.specs.Reading.{Read, read, kinds, begins, taken, ◌>>=◌}
use Rattle.ixp_lang_tokens.specs.Pieces.{the_word, is_word, if_so}
use Rattle.ixp_lang_exprs.specs.Names.{Names}
use Rattle.ixp_lang_exprs.specs.Declarations.{Declares}
use Rattle.ixp_lang_protocols.specs.Protocols.{protocol_end}
use Rattle.ixp_read.specs.Functions.{function_form, filter_form}
use Rattle.ixp_read.specs.Items.{router_id_end, table_end, define_end, declaration_form, table_or, item_form, Begun, with_item, is_more, one_item, config_round}
use Rattle.ixp_read.specs.Views.{begun_of}
use Rattle.ixp_read.proofs.ItemSteps.{protocol_part, filter_part, function_part, roa6_part, roa4_part, ipv6_part}

-- where no text of it begins, the first token is refused
abbrev pub Refuses : {A : Type 0} → Grammar A → Type 0
Refuses g = (k : Kind) (ts : List Kind) → begins g (k ∷ ts) ≡ false → read g (k ∷ ts) ≡ Err (Unexpected, suc (length ts))

refused_by : {A : Type 0} (o : Option A) (ts : List Kind) → is_some o ≡ false → taken o ts ≡ Err (Unexpected, suc (length ts))
refused_by (Some v) ts e = absurd cc
refused_by None ts e = refl

refuses_word : {A : Type 0} (word : List ℕ) (f : Unit {0} → Grammar A) → Refuses (sequence (the_word word) f)
refuses_word word f k ts e = ap (λ r. r >>= λ a. read (f a.0) a.1) (refused_by (if_so (is_word word k)) ts e)

refuses_by : {A : Type 0} (a b : Bool) (q r : Read A) (fault : Cause × ℕ) → (a ≡ false → q ≡ Err fault) → (b ≡ false → r ≡ Err fault) → (a || b) ≡ false → (if a then q else r) ≡ Err fault
refuses_by true b q r fault f g e = absurd cc
refuses_by false b q r fault f g e = g e

refuses_choice : {A : Type 0} (f g : Grammar A) → Refuses f → Refuses g → Refuses (choice f g)
refuses_choice f g p q k ts e = refuses_by (begins f (k ∷ ts)) (begins g (k ∷ ts)) (read f (k ∷ ts)) (read g (k ∷ ts)) (Unexpected, suc (length ts)) (p k ts) (q k ts) e

refuses_declaration : (number place : ℕ) (names : Names) → Refuses (declaration_form number place names)
unfolding declaration_form
refuses_declaration number place names =
    refuses_choice (sequence (the_word (codes "define")) (λ tt. define_end place names)) (function_part number place names) (refuses_word (codes "define") (λ tt. define_end place names))
    (refuses_choice (sequence (the_word (codes "function")) (λ tt. function_form number names)) (filter_part number place names) (refuses_word (codes "function") (λ tt. function_form number names))
    (refuses_choice (sequence (the_word (codes "filter")) (λ tt. filter_form names)) (protocol_part number place names) (refuses_word (codes "filter") (λ tt. filter_form names))
    (refuses_word (codes "protocol") (λ tt. protocol_end names))))

refuses_table : (number place : ℕ) (names : Names) → Refuses (table_or number place names)
unfolding table_or
refuses_table number place names =
    refuses_choice (sequence (the_word (codes "ipv4")) (λ tt. table_end Ipv4 names)) (ipv6_part number place names) (refuses_word (codes "ipv4") (λ tt. table_end Ipv4 names))
    (refuses_choice (sequence (the_word (codes "ipv6")) (λ tt. table_end Ipv6 names)) (roa4_part number place names) (refuses_word (codes "ipv6") (λ tt. table_end Ipv6 names))
    (refuses_choice (sequence (the_word (codes "roa4")) (λ tt. table_end Roa4 names)) (roa6_part number place names) (refuses_word (codes "roa4") (λ tt. table_end Roa4 names))
    (refuses_choice (sequence (the_word (codes "roa6")) (λ tt. table_end Roa6 names)) (declaration_form number place names) (refuses_word (codes "roa6") (λ tt. table_end Roa6 names))
    (refuses_declaration number place names))))

refuses_item : (number : ℕ) (names : Names) → Refuses (item_form number names)
unfolding item_form
refuses_item number names k ts e =
    refuses_choice (sequence (the_word (codes "router")) (λ tt. router_id_end names)) (table_or number (suc (length ts)) names) (refuses_word (codes "router") (λ tt. router_id_end names))
    (refuses_table number (suc (length ts)) names) k ts e

-- the end of the text
abbrev no_more : Begun → Grammar (Step Begun (List ItemTree))
no_more before = unless is_more (gives (done before.items))

abbrev more : Begun → Declares × List Kind → Read (Step Begun (List ItemTree))
more before a = Ok (onward (with_item before a.0), a.1)

one_by : (before : Begun) (k : Kind) (ts : List Kind) (b : Bool) → begins (item_form (length before.items) before.names) (k ∷ ts) ≡ b
    → (if b then read (one_item before) (k ∷ ts) else read (no_more before) (k ∷ ts)) ≡ read (one_item before) (k ∷ ts)
one_by before k ts true e = refl
one_by before k ts false e = sym (ap (λ r. r >>= more before) (refuses_item (length before.items) before.names k ts e))

pub one_more : (before : Begun) (ts : List Kind) → 0 < length ts → read (config_round before) ts ≡ read (one_item before) ts
one_more before [] some = absurd (omega arith)
one_more before (k ∷ ts) some = one_by before k ts (begins (item_form (length before.items) before.names) (k ∷ ts)) refl

never_item : (number : ℕ) (names : Names) → begins (item_form number names) [] ≡ false
unfolding item_form table_or declaration_form
never_item number names = refl

pub at_end : (before : Begun) → read (config_round before) [] ≡ Ok (done before.items, [])
at_end before = ap (λ b. if b then read (one_item before) [] else read (no_more before) []) (never_item (length before.items) before.names)

pub with_one : (items : List Item) (item : Item) (before names : Names) → with_item (begun_of items before) (item_view item, names) ≡ begun_of (items ++ item ∷ []) names
with_one items item before names = ap (λ is. record { items = is; names = names }) (sym (map-append item_view items (item ∷ [])))

pub none_left : (tokens : List Token) → true ≡ (length tokens == 0) → kinds tokens ≡ []
none_left [] e = refl
none_left (t ∷ ts) e = absurd (grind (arith, nat_tests, e))

pub some_left : (tokens : List Token) → false ≡ (length tokens == 0) → 0 < length (kinds tokens)
some_left [] e = grind (arith, nat_tests, e)
some_left (t ∷ ts) e = omega arith

-- what is said once an item is read
abbrev pub added : List Item → Names → Declares × List Kind → Read (Step Begun (List ItemTree))
added items names a = Ok (onward (with_item (begun_of items names) a.0), a.1)

pub round_item : (items : List Item) (names : Names) (number : ℕ) (ts : List Kind) → number ≡ length items → 0 < length ts
    → read (config_round (begun_of items names)) ts ≡ (read (item_form number names) ts >>= added items names)
round_item items names number ts same some =
    one_more (begun_of items names) ts some ∙ ap (λ n. read (item_form n names) ts >>= added items names) (length-map items item_view ∙ sym same)
