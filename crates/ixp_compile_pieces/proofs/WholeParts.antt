-- The parts of a text, as the program puts them together, are those of its definition.
use Rattle.std.proofs.Common.{codes, ◌≡◌, List, [], ◌∷◌, ◌++◌, refl, sym, ap, ◌∙◌, append_assoc, append-nil}
use Rattle.ixp_num.specs.declared.pattern.Pattern.{Pattern}
use Rattle.ixp_lang.specs.declared.value.SetLit.TheVariants as set
use Rattle.ixp_lang.specs.Trees.{ItemTree, table_item}
use Rattle.ixp_compile.specs.declared.inputs.HeaderInputs.{HeaderInputs}
use Rattle.ixp_compile.specs.declared.inputs.Inputs.{Inputs}
use Rattle.ixp_compile.specs.Pieces.{defined, in_turn, numbers, table_kind}
use Rattle.ixp_compile.specs.Header.{bogons_of, header, joined_ranges, public_sets, shared_functions, tables}
use Rattle.ixp_compile.specs.Fragment.{fragment, member_sets, protocols, session_filters, table_name}
use Rattle.ixp_compile_pieces.specs.Items.{as_item, count_item, down_item, drop_item, in_item, net_item, out_item, pad_item, public_items, receive_item, sends_item, shared_items, transit_item, up_item}

three_in_turn : {A : Type 0} (a b c : List A) → (a ++ b) ++ c ≡ in_turn (a ∷ b ∷ c ∷ [])
three_in_turn a b c = append_assoc a b c ∙ ap (λ t. a ++ (b ++ t)) (sym (append-nil c))

one_more_part : {A : Type 0} (a b c d : List A) → in_turn (a ∷ b ∷ c ∷ []) ++ d ≡ in_turn (a ∷ b ∷ c ∷ d ∷ [])
one_more_part a b c d =
    append_assoc a (b ++ (c ++ [])) d
    ∙ ap (λ t. a ++ t) (append_assoc b (c ++ []) d ∙ ap (λ t. b ++ t) (append_assoc c [] d ∙ ap (λ t. c ++ t) (sym (append-nil d))))

-- what is added in three steps
steps : {A : Type 0} (start one two three a b c : List A)
    → one ≡ start ++ a → two ≡ one ++ b → three ≡ two ++ c → three ≡ start ++ in_turn (a ∷ b ∷ c ∷ [])
steps start one two three a b c e f g =
    g
    ∙ ap (λ t. t ++ c) (f ∙ ap (λ t. t ++ b) e ∙ append_assoc start a b)
    ∙ append_assoc start (a ++ b) c
    ∙ ap (λ t. start ++ t) (three_in_turn a b c)

public_is : (h : HeaderInputs) → public_items h ≡ public_sets h
public_is h =
    three_in_turn (defined (codes "ixp_bogons") set.Prefixes (bogons_of h)) (defined (codes "ixp_bogon_as") set.Ints (joined_ranges h.bogon_as))
    (defined (codes "ixp_transit_as") numbers h.transit)

shared_is : (h : HeaderInputs) → shared_items h ≡ shared_functions h
unfolding drop_item net_item as_item transit_item sends_item count_item pad_item out_item
shared_is h = refl

-- the head
pub head_is :
    (h : HeaderInputs) (start one two three : List ItemTree)
    → one ≡ start ++ tables h.router → two ≡ one ++ public_items h → three ≡ two ++ shared_items h → three ≡ start ++ header h
head_is h start one two three e f g =
    steps start one two three (tables h.router) (public_sets h) (shared_functions h) e
    (f ∙ ap (λ t. one ++ t) (public_is h)) (g ∙ ap (λ t. two ++ t) (shared_is h))

-- the items of a session, its protocols left aside
filters_are : (i : Inputs) (irr blackholes : List Pattern)
    → in_item i irr blackholes ∷ up_item i ∷ receive_item i ∷ down_item i ∷ [] ≡ session_filters i irr blackholes
unfolding in_item up_item receive_item down_item
filters_are i irr blackholes = refl

-- a session's part, its table first
pub part_is :
    (i : Inputs) (irr blackholes : List Pattern) (start one two three four : List ItemTree)
    → one ≡ start ++ table_item (table_kind i.family) (table_name i.interface) ∷ []
    → two ≡ one ++ member_sets i irr blackholes
    → three ≡ two ++ in_item i irr blackholes ∷ up_item i ∷ receive_item i ∷ down_item i ∷ []
    → four ≡ three ++ protocols i
    → four ≡ start ++ fragment i irr blackholes
part_is i irr blackholes start one two three four e f g k =
    k
    ∙ ap (λ t. t ++ protocols i)
    (steps start one two three (table_item (table_kind i.family) (table_name i.interface) ∷ []) (member_sets i irr blackholes) (session_filters i irr blackholes) e f
    (g ∙ ap (λ t. two ++ t) (filters_are i irr blackholes)))
    ∙ append_assoc start (in_turn ((table_item (table_kind i.family) (table_name i.interface) ∷ []) ∷ member_sets i irr blackholes ∷ session_filters i irr blackholes ∷ [])) (protocols i)
    ∙ ap (λ t. start ++ t) (one_more_part (table_item (table_kind i.family) (table_name i.interface) ∷ []) (member_sets i irr blackholes) (session_filters i irr blackholes) (protocols i))
