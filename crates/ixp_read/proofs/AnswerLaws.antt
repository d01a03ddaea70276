-- A text has one answer.
use Rattle.std.proofs.Common.{◌≡◌, ◌∙◌, ℕ, List, [], Result, Ok, Err, refl, sym, ap, subst}
use Rattle.ixp_lang.specs.Trees.{ItemTree}
use Rattle.ixp_lang.specs.declared.item.Config.{Config}
use Rattle.ixp_lang.specs.Views.{config_view}
use Rattle.ixp_lang_tokens.specs.declared.fault.Cause.{Cause}
use Rattle.ixp_lang_tokens.specs.Grammars.{Took}
use Rattle.ixp_lang_tokens.specs.Tokens.{placed_kinds}
use Rattle.ixp_lang_tokens.specs.Reading.{Read, read}
use Rattle.ixp_lang_tokens.proofs.TokenLaws.{one_tokens}
use Rattle.ixp_read.specs.declared.fault.ReadFault.{ReadFault}
use Rattle.ixp_read.specs.declared.fault.ReadFault.TheVariants.{Byte, Number, Unexpected, UnknownName, NameTwice, MixedLogic, WrongType, TooDeep, OutOfProfile, NoMemory}
use Rattle.ixp_read.specs.Items.{config_form}
use Rattle.ixp_read.specs.Answers.{SpellsText, fault_at, IsStop, ConfigAnswer, IsTold, SameAnswer}
use Rattle.ixp_read.proofs.ConfigurationLaws.{config_read, one_config}

stop_of : (text : List ℕ) (f : ReadFault) → IsTold (Err f) → ConfigAnswer text (Err f) → IsStop text f
stop_of text (Byte at) told is = is
stop_of text (Number at) told is = is
stop_of text (Unexpected at) told is = is
stop_of text (UnknownName at) told is = is
stop_of text (NameTwice at) told is = is
stop_of text (MixedLogic at) told is = is
stop_of text (WrongType at) told is = is
stop_of text (TooDeep at) told is = is
stop_of text (OutOfProfile at) told is = is
stop_of text NoMemory told is = absurd told

pub one_spelling : (text : List ℕ) (c d : List ItemTree) → SpellsText text c → SpellsText text d → c ≡ d
one_spelling text c d (tokens, (placed, have, same), took) (others, (found, hold, is), reads) =
    let all : placed ≡ found = one_tokens text placed found have hold in
    let e : others ≡ tokens = sym is ∙ sym (ap placed_kinds all) ∙ same in
    one_config tokens c d took (subst (λ t. Took config_form d t []) e reads)

read_apart : (r : Read (List ItemTree)) (c : List ItemTree) (fault : Cause × ℕ) → r ≡ Ok (c, []) → r ≡ Err fault → ⊥
read_apart r c fault e f = absurd cc

apart : (text : List ℕ) (c : List ItemTree) (f : ReadFault) → SpellsText text c → IsStop text f → ⊥
apart text c f (tokens, (placed, have, same), took) stop =
    let all : placed_kinds placed ≡ placed_kinds stop.tokens = ap placed_kinds (one_tokens text placed stop.tokens have stop.are) in
    read_apart (read config_form tokens) c (stop.cause, stop.left) (config_read tokens c took) (subst (λ ts. read config_form ts ≡ Err (stop.cause, stop.left)) (sym all ∙ same) stop.stops)

one_end : (r : Read (List ItemTree)) (a b : Cause × ℕ) → r ≡ Err a → r ≡ Err b → a ≡ b
one_end r a b e f = cc

one_fault : (text : List ℕ) (f g : ReadFault) → IsStop text f → IsStop text g → f ≡ g
one_fault text f g one other =
    let all : other.tokens ≡ one.tokens = one_tokens text other.tokens one.tokens other.are one.are in
    let same = one_end (read config_form (placed_kinds one.tokens)) (one.cause, one.left) (other.cause, other.left) one.stops
    (subst (λ ts. read config_form (placed_kinds ts) ≡ Err (other.cause, other.left)) all other.stops) in
    one.is ∙ ap (λ a. fault_at text one.tokens a.0 a.1) same ∙ ap (λ ts. fault_at text ts other.cause other.left) (sym all) ∙ sym other.is

pub answers_agree : (text : List ℕ) (one other : Result Config ReadFault) → IsTold one → IsTold other → ConfigAnswer text one → ConfigAnswer text other → SameAnswer one other
answers_agree text (Ok c) (Ok d) p q one other = one_spelling text (config_view c) (config_view d) one other
answers_agree text (Ok c) (Err g) p q one other = apart text (config_view c) g one (stop_of text g q other)
answers_agree text (Err f) (Ok d) p q one other = apart text (config_view d) f other (stop_of text f p one)
answers_agree text (Err f) (Err g) p q one other = one_fault text f g (stop_of text f p one) (stop_of text g q other)

pub spelt_is_answered : (text : List ℕ) (c : List ItemTree) (f : ReadFault) → SpellsText text c → ConfigAnswer text (Err f) → f ≡ NoMemory
spelt_is_answered text c (Byte at) spelt is = absurd (apart text c (Byte at) spelt is)
spelt_is_answered text c (Number at) spelt is = absurd (apart text c (Number at) spelt is)
spelt_is_answered text c (Unexpected at) spelt is = absurd (apart text c (Unexpected at) spelt is)
spelt_is_answered text c (UnknownName at) spelt is = absurd (apart text c (UnknownName at) spelt is)
spelt_is_answered text c (NameTwice at) spelt is = absurd (apart text c (NameTwice at) spelt is)
spelt_is_answered text c (MixedLogic at) spelt is = absurd (apart text c (MixedLogic at) spelt is)
spelt_is_answered text c (WrongType at) spelt is = absurd (apart text c (WrongType at) spelt is)
spelt_is_answered text c (TooDeep at) spelt is = absurd (apart text c (TooDeep at) spelt is)
spelt_is_answered text c (OutOfProfile at) spelt is = absurd (apart text c (OutOfProfile at) spelt is)
spelt_is_answered text c NoMemory spelt is = refl
