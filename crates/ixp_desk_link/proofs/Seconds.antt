-- Questions at the clock's second.
use Rattle.std.proofs.Common.{◌≡◌, ℕ, Option, refl, sym, subst}
use Rattle.ixp_io.specs.Told.{Told}
use Rattle.ixp_num.specs.declared.family.Family.{Family}
use Rattle.ixp_machine.specs.declared.question.Query.{Query}
use Rattle.ixp_machine.specs.declared.question.Query.TheVariants.{Member, Contacts, Rules, Use, Ixf, Dump}
use Rattle.ixp_desk_link.specs.Turns.{AsksClock, at_second}

-- at some second this is the question, and the clock was asked for it or wasn't
abbrev pub IsTimed : Query → Option ℕ → Option ℕ → Query → Type 0
IsTimed q given given' asked = (second : ℕ) × AsksClock q second given given' × (asked ≡ at_second second q)

pub export_timed : (q : Query) (old second : ℕ) (given given' : Option ℕ) → q ≡ Ixf old → Told given given' (λ before last. last ≡ second) → IsTimed q given given' (Ixf second)
export_timed q old second given given' is gave = subst (λ (x : Query). IsTimed x given given' (Ixf second)) (sym is) (second, gave, refl)

pub member_timed : (q : Query) (m : ℕ) (given : Option ℕ) → q ≡ Member m → IsTimed q given given (Member m)
member_timed q m given is = subst (λ (x : Query). IsTimed x given given (Member m)) (sym is) (0, refl, refl)

pub contacts_timed : (q : Query) (m : ℕ) (given : Option ℕ) → q ≡ Contacts m → IsTimed q given given (Contacts m)
contacts_timed q m given is = subst (λ (x : Query). IsTimed x given given (Contacts m)) (sym is) (0, refl, refl)

pub rules_timed : (q : Query) (m : ℕ) (given : Option ℕ) → q ≡ Rules m → IsTimed q given given (Rules m)
rules_timed q m given is = subst (λ (x : Query). IsTimed x given given (Rules m)) (sym is) (0, refl, refl)

pub use_timed : (q : Query) (v : ℕ) (f : Family) (given : Option ℕ) → q ≡ Use v f → IsTimed q given given (Use v f)
use_timed q v f given is = subst (λ (x : Query). IsTimed x given given (Use v f)) (sym is) (0, refl, refl)

pub dump_timed : (q : Query) (given : Option ℕ) → q ≡ Dump → IsTimed q given given Dump
dump_timed q given is = subst (λ (x : Query). IsTimed x given given Dump) (sym is) (0, refl, refl)
