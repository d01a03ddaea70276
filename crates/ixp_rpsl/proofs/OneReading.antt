-- No text has two answers.
use Rattle.std.proofs.Common.{◌≡◌, ◌≢◌, ℕ, false, List, [], ◌∷◌, Option, Some, None, Result, Ok, Err, codes, refl, sym, ap, ◌∙◌}
use Rattle.ixp_rpsl.specs.Lines.{Line, lines_in}
use Rattle.ixp_rpsl.specs.Attributes.{attributes, bad_line, named, whole_value}
use Rattle.ixp_rpsl.specs.Objects.{AllSay, KindSays, NamedSays, ReadAnswer, at_fault, found_route, joined, kind_of, objects, route_of}
use Rattle.ixp_rpsl.specs.Values.{trimmed}
use Rattle.ixp_rpsl.specs.declared.entries.Kind.{Kind}
use Rattle.ixp_rpsl.specs.declared.entries.Kind.TheVariants as kinds
use Rattle.ixp_rpsl.specs.declared.fault.RpslFault.{RpslFault}
use Rattle.ixp_rpsl.specs.declared.fault.RpslFault.TheVariants as fault
use Rattle.ixp_rpsl.specs.declared.found.Found.{Found}
use Rattle.ixp_rpsl.specs.declared.objects.Objects.{Objects}
use Rattle.ixp_rpsl.proofs.Saying.{one_prefix_said}

kind_one : (kind : Kind) (first : ℕ) (key : List ℕ) (ls : List Line) (a b : Found) → KindSays kind first key ls a → KindSays kind first key ls b → a ≡ b
kind_one (kinds.Route family) first key ls a b (net, says, e) (other, more, f) =
    e ∙ (ap (λ n. found_route (route_of first n (attributes (codes "origin") ls))) (one_prefix_said family key net other says more) ∙ sym f)
kind_one kinds.Set first key ls a b x y = x ∙ sym y
kind_one kinds.Other first key ls a b x y = x ∙ sym y

named_one : (n : Option (List ℕ × List ℕ)) (first : ℕ) (ls : List Line) (a b : Found) → NamedSays n first ls a → NamedSays n first ls b → a ≡ b
named_one None first ls a b x y = x ∙ sym y
named_one (Some p) first ls a b (said, says, e) (other, more, f) =
    e ∙ (ap (joined (at_fault (bad_line ls))) (kind_one (kind_of p.0) first (trimmed (whole_value p.1 ls)) ls said other says more) ∙ sym f)

all_one : (os : List (Line × List Line)) (a b : Found) → AllSay os a → AllSay os b → a ≡ b
all_one [] a b x y = x ∙ sym y
all_one (o ∷ os) a b (one, others, says, rest, e) (two, more, said, left, f) =
    e ∙ (ap (λ x. joined x others) (named_one (named o.0.bytes) o.0.number o.1 one two says said) ∙ (ap (joined two) (all_one os others more rest left) ∙ sym f))

objects_one : (a b : Objects) → a.routes ≡ b.routes → a.sets ≡ b.sets → a ≡ b
objects_one a b r s = ap (λ x. record { routes = x; sets = a.sets }) r ∙ ap (λ x. record { routes = b.routes; sets = x }) s

pub one_answer : (t : List ℕ) (x y : Result Objects RpslFault) → x ≢ Err fault.NoMemory → y ≢ Err fault.NoMemory → ReadAnswer t x → ReadAnswer t y → x ≡ y
one_answer t (Err fault.NoMemory) y some other a b = absurd (some refl)
one_answer t (Err fault.NoSet) y some other a b = absurd a
one_answer t (Err (fault.TooMany n)) y some other a b = absurd a
one_answer t (Ok o) (Err fault.NoMemory) some other a b = absurd (other refl)
one_answer t (Ok o) (Err fault.NoSet) some other a b = absurd b
one_answer t (Ok o) (Err (fault.TooMany n)) some other a b = absurd b
one_answer t (Err (fault.Line m)) (Err fault.NoMemory) some other a b = absurd (other refl)
one_answer t (Err (fault.Line m)) (Err fault.NoSet) some other a b = absurd b
one_answer t (Err (fault.Line m)) (Err (fault.TooMany n)) some other a b = absurd b
one_answer t (Ok o) (Ok p) some other a b =
    let same : a.0 ≡ b.0 = all_one (objects false (lines_in t)) a.0 b.0 a.1 b.1 in
    ap (λ z. Ok z) (objects_one o p (a.3 ∙ (ap (λ (f : Found). f.routes) same ∙ sym b.3)) (a.4 ∙ (ap (λ (f : Found). f.sets) same ∙ sym b.4)))
one_answer t (Ok o) (Err (fault.Line n)) some other a b =
    let same : a.0 ≡ b.0 = all_one (objects false (lines_in t)) a.0 b.0 a.1 b.1 in
    absurd (let none : None ≡ Some n = sym a.2 ∙ (ap (λ (f : Found). f.fault) same ∙ b.2) in let h : ⊥ = cc in h)
one_answer t (Err (fault.Line m)) (Ok p) some other a b =
    let same : a.0 ≡ b.0 = all_one (objects false (lines_in t)) a.0 b.0 a.1 b.1 in
    absurd (let none : Some m ≡ None = sym a.2 ∙ (ap (λ (f : Found). f.fault) same ∙ b.2) in let h : ⊥ = cc in h)
one_answer t (Err (fault.Line m)) (Err (fault.Line n)) some other a b =
    let same : a.0 ≡ b.0 = all_one (objects false (lines_in t)) a.0 b.0 a.1 b.1 in
    let lines : ◌≡◌ {A = Option ℕ} (Some m) (Some n) = sym a.2 ∙ (ap (λ (f : Found). f.fault) same ∙ b.2) in
    let one : m ≡ n = cc in
    ap (λ k. Err (fault.Line k)) one
