-- What passing by objects finds.
use Rattle.std.proofs.Common.{◌≡◌, ℕ, Bool, true, false, List, [], ◌∷◌, Option, Some, None, if◌then◌else◌, refl, sym, ap, ◌∙◌, subst}
use Rattle.ixp_rpsl.specs.Lines.{Line}
use Rattle.ixp_rpsl.specs.Attributes.{attributes, bad_line, earlier, is_empty, named, past_object, past_value, whole_value}
use Rattle.ixp_rpsl.specs.Values.{trimmed}
use Rattle.ixp_rpsl.specs.Objects.{AllSay, KindSays, NamedSays, at_fault, joined, kind_of, objects}
use Rattle.ixp_rpsl.specs.Passes.{Finds, FindsOf, Passes}
use Rattle.ixp_rpsl.specs.declared.entries.Kind.{Kind}
use Rattle.ixp_rpsl.specs.declared.entries.Kind.TheVariants as kinds
use Rattle.ixp_rpsl.specs.declared.found.Found.{Found}
use Rattle.ixp_rpsl.proofs.Gathering.{behind_value}
use Rattle.ixp_rpsl.proofs.Joining.{join_as, join_nothing}

-- behind an object's first line the next object is past its end
pub past_first : (ls : List Line) → objects true ls ≡ objects false (past_object ls)
past_first [] = refl
past_first (l ∷ ls) = by (is_empty l.bytes) refl (past_first ls) where
  by : (b : Bool) → is_empty l.bytes ≡ b → objects true ls ≡ objects false (past_object ls)
      → (if b then objects false ls else objects true ls) ≡ objects false (if b then l ∷ ls else past_object ls)
  by true e later = ap (λ b. if b then objects false ls else (l, ls) ∷ objects true ls) (sym e)
  by false e later = later

pub passes_object : (l : Line) (ls rest : List Line) (old new : Found) → is_empty l.bytes ≡ false → Finds l ls rest old new → Passes (l ∷ ls) rest old new
passes_object l ls rest old new some (one, says, grown, past) = λ others say.
    let behind : AllSay (objects true ls) others = subst (λ os. AllSay os others) (ap (objects false) past ∙ sym (past_first ls)) say in
    let all : AllSay (objects false (l ∷ ls)) (joined one others) =
    subst (λ b. AllSay (if b then objects false ls else (l, ls) ∷ objects true ls) (joined one others)) (sym some) (one, others, says, behind, refl) in
    (joined one others, all, ap (λ f. joined f others) grown ∙ join_as old one others)

pub passes_empty : (l : Line) (ls : List Line) (old : Found) → is_empty l.bytes ≡ true → Passes (l ∷ ls) ls old old
passes_empty l ls old none = λ others say. (others, subst (λ b. AllSay (if b then objects false ls else (l, ls) ∷ objects true ls) others) (sym none) say, refl)

pub all_passed : (ls : List Line) (new : Found) → Passes ls [] (at_fault None) new → AllSay (objects false ls) new
all_passed ls new passes =
    let all = passes (at_fault None) refl in
    let same : new ≡ all.0 = sym (join_nothing new) ∙ all.2 in
    subst (AllSay (objects false ls)) (sym same) all.1

-- the attributes behind a value
pub behind_key : (word : List ℕ) (ls rest : List Line) → rest ≡ past_value ls → attributes word rest ≡ attributes word ls
behind_key word ls rest e = ap (attributes word) e ∙ (behind_value word ls).0

-- an object of a kind, whose value was read first, and then what is behind it
pub finds_said : (kind : Kind) (first : ℕ) (key : List ℕ) (ls middle rest : List Line) (fault : Option ℕ) (old mid new said : Found)
    → middle ≡ past_value ls → fault ≡ bad_line middle → rest ≡ past_object middle → KindSays kind first (trimmed (whole_value key ls)) ls said
    → mid ≡ joined old (at_fault fault) → new ≡ joined mid said → FindsOf kind first key ls rest old new
finds_said kind first key ls middle rest fault old mid new said behind bad past says noted grown =
    let three = behind_value [] ls in
    let bad_there : fault ≡ bad_line ls = bad ∙ (ap bad_line behind ∙ three.1) in (
      said,
      says,
      grown ∙ (ap (λ m. joined m said) (noted ∙ ap (λ f. joined old (at_fault f)) bad_there) ∙ join_as old (at_fault (bad_line ls)) said),
      past ∙ (ap past_object behind ∙ three.2),
    )

pub finds_other : (first : ℕ) (key : List ℕ) (ls rest : List Line) (old new : Found) → new ≡ joined old (at_fault (bad_line ls)) → rest ≡ past_object ls → FindsOf kinds.Other first key ls rest old new
finds_other first key ls rest old new grown past = (at_fault None, refl, grown ∙ ap (joined old) (sym (join_nothing (at_fault (bad_line ls)))), past)

pub finds_named : (l : Line) (ls rest : List Line) (name key : List ℕ) (old new : Found) → named l.bytes ≡ Some (name, key) → FindsOf (kind_of name) l.number key ls rest old new → Finds l ls rest old new
finds_named l ls rest name key old new e (said, says, grown, past) =
    (joined (at_fault (bad_line ls)) said, subst (λ n. NamedSays n l.number ls (joined (at_fault (bad_line ls)) said)) (sym e) (said, says, refl), grown, past)

pub finds_nameless : (l : Line) (ls rest : List Line) (old mid new : Found) → named l.bytes ≡ None → mid ≡ joined old (at_fault (Some l.number)) → new ≡ joined mid (at_fault (bad_line ls)) → rest ≡ past_object ls → Finds l ls rest old new
finds_nameless l ls rest old mid new e noted grown past = (
  at_fault (earlier (Some l.number) (bad_line ls)),
  subst (λ n. NamedSays n l.number ls (at_fault (earlier (Some l.number) (bad_line ls)))) (sym e) refl,
  grown ∙ (ap (λ m. joined m (at_fault (bad_line ls))) noted ∙ join_as old (at_fault (Some l.number)) (at_fault (bad_line ls))),
  past,
)
