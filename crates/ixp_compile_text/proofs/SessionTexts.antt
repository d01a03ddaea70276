-- The text of a router is the texts of its parts.
use Rattle.std.proofs.Common.{◌≡◌, ℕ, true, false, List, [], ◌∷◌, ◌++◌, Option, Some, None, option_map, filter_map, flat_map, refl, sym, ap, ◌∙◌, append_assoc, append-nil}
use Rattle.std.specs.List.{cons_option}
use Rattle.ixp_num_tables.specs.Tables.{if_there}
use Rattle.ixp_lang.specs.Trees.{ItemTree}
use Rattle.ixp_print.specs.Texts.{config_text, item_text}
use Rattle.std.specs.Option.{is_some}
use Rattle.ixp_registry.specs.Sessions.{Session, session_at}
use Rattle.ixp_registry.specs.declared.network.Interface.{Interface}
use Rattle.ixp_registry.specs.declared.registry.Registry.{Registry}
use Rattle.ixp_registry.specs.declared.router.Router.{Router}
use Rattle.ixp_compile.specs.declared.inputs.HeaderInputs.{HeaderInputs}
use Rattle.ixp_compile.specs.declared.inputs.Inputs.{Inputs}
use Rattle.ixp_compile.specs.Header.{header}
use Rattle.ixp_compile.specs.Pieces.{in_turn}
use Rattle.ixp_compile.specs.Generated.{footer, generated, header_inputs, inputs, own_part, router_sessions, session_part}
use Rattle.ixp_compile_text.specs.declared.parts.SessionText.{SessionText}
use Rattle.ixp_compile_text.specs.Parts.{session_text_at, session_text_of}
use Rattle.ixp_compile_text.specs.Sessions.{part_text, sessions_text}

pub text_append : (xs ys : List ItemTree) → config_text (xs ++ ys) ≡ config_text xs ++ config_text ys
text_append [] ys = refl
text_append (x ∷ xs) ys = ap (λ t. item_text x ++ t) (text_append xs ys) ∙ sym (append_assoc (item_text x) (config_text xs) (config_text ys))

-- three parts, as a program writes them
three_texts : (xs ys zs : List ItemTree) → config_text (in_turn (xs ∷ ys ∷ zs ∷ [])) ≡ (config_text xs ++ config_text ys) ++ config_text zs
three_texts xs ys zs =
    text_append xs (ys ++ (zs ++ []))
    ∙ ap (λ t. config_text xs ++ t)
    (text_append ys (zs ++ []) ∙ ap (λ (last : List ItemTree). config_text ys ++ config_text last) (append-nil zs))
    ∙ sym (append_assoc (config_text xs) (config_text ys) (config_text zs))

-- Sessions.

some_more :
    (f : Session → List ItemTree) (s : Option Session) (left : List Session)
    → config_text (flat_map f (cons_option s left)) ≡ if_there s [] (λ t. config_text (f t)) ++ config_text (flat_map f left)
some_more f None left = refl
some_more f (Some s) left = text_append (f s) (flat_map f left)

pub one_more :
    (r : Registry) (router : Router) (i : Interface) (is : List Interface)
    → sessions_text r router (i ∷ is) ≡ part_text r router i ++ sessions_text r router is
unfolding sessions_text part_text
one_more r router i is = some_more (λ s. session_part (inputs r router s)) (session_at r router i) (filter_map (session_at r router) is)

pub none_more : (r : Registry) (router : Router) → sessions_text r router [] ≡ []
unfolding sessions_text
none_more r router = refl

-- Whole texts.

pub whole_text :
    (r : Registry) (router : Router)
    → config_text (generated r router)
    ≡ (config_text (header (header_inputs r router)) ++ sessions_text r router r.interfaces) ++ config_text footer
unfolding sessions_text
whole_text r router =
    three_texts (header (header_inputs r router)) (flat_map (λ s. session_part (inputs r router s)) (router_sessions r router)) footer

pub own_text :
    (r : Registry) (router : Router) (s : Session)
    → config_text (own_part r router s)
    ≡ (config_text (header (header_inputs r router)) ++ config_text (session_part (inputs r router s))) ++ config_text footer
own_text r router s = three_texts (header (header_inputs r router)) (session_part (inputs r router s)) footer

-- what a program writes of a session's own text
pub own_made :
    (r : Registry) (router : Router) (s : Session) (h : HeaderInputs) (i : Inputs) (zero one two three : List ℕ)
    → h ≡ header_inputs r router → i ≡ inputs r router s → zero ≡ [] → one ≡ zero ++ config_text (header h)
    → two ≡ one ++ config_text (session_part i) → three ≡ two ++ config_text footer → three ≡ config_text (own_part r router s)
own_made r router s h i zero one two three of_head of_part e f g k =
    k
    ∙ ap (λ (t : List ℕ). t ++ config_text footer)
    (g
    ∙ ap (λ (t : List ℕ). t ++ config_text (session_part i))
    (f ∙ ap (λ (t : List ℕ). t ++ config_text (header h)) e ∙ ap (λ (x : HeaderInputs). config_text (header x)) of_head)
    ∙ ap (λ (x : Inputs). config_text (header (header_inputs r router)) ++ config_text (session_part x)) of_part)
    ∙ sym (own_text r router s)

-- the part of an interface that has a session
pub text_of_session :
    (r : Registry) (router : Router) (i : Interface) (s : Session) → session_at r router i ≡ Some s
    → config_text (session_part (inputs r router s)) ≡ part_text r router i
unfolding part_text
text_of_session r router i s e = sym (ap (λ t. if_there t [] (λ x. config_text (session_part (inputs r router x)))) e)

-- the text of the part by itself
pub some_text :
    (r : Registry) (router : Router) (i : Interface) (text : List ℕ) → is_some (session_at r router i) ≡ true → text ≡ [] ++ part_text r router i
    → Some (record { interface = i.number; text = text }) ≡ session_text_at r router i
unfolding part_text
some_text r router i text there is = by_session (session_at r router i) there is
  where
    by_session : (o : Option Session) → is_some o ≡ true → text ≡ [] ++ if_there o [] (λ s. config_text (session_part (inputs r router s)))
        → ◌≡◌ {A = Option SessionText} (Some (record { interface = i.number; text = text })) (session_text_of r router i o)
    by_session None there is = absurd (let bad : ⊥ = cc in bad)
    by_session (Some s) there is = ap (λ (t : List ℕ). Some (record { interface = i.number; text = t })) is

pub no_text : (r : Registry) (router : Router) (i : Interface) → is_some (session_at r router i) ≡ false → None ≡ session_text_at r router i
no_text r router i none = by_session (session_at r router i) none
  where
    by_session : (o : Option Session) → is_some o ≡ false → ◌≡◌ {A = Option SessionText} None (session_text_of r router i o)
    by_session None none = refl
    by_session (Some s) none = absurd (let bad : ⊥ = cc in bad)
