-- Which states a store is proved to be loaded as: all that requests lead to.
use Rattle.std.specs.Prelude.{◌≡◌, ◌≢◌, ◌<◌, ◌^◌, ◌⊎◌, true, List, []}
use Rattle.std.specs.List.{AllByRecursion}
use Rattle.ixp_registry.specs.declared.edit_kind.EditKind.{EditKind}
use Rattle.ixp_registry.specs.declared.edit_kind.EditKind.TheVariants as kind
use Rattle.ixp_registry.specs.Alphabets.{is_handle}
use Rattle.ixp_registry.specs.Widths.{IsNumber}
use Rattle.ixp_machine_steps.specs.declared.kept.KeptNumber.{KeptNumber}
use Rattle.ixp_machine_steps.specs.declared.kept.KeptOwner.{KeptOwner}
use Rattle.ixp_machine_steps.specs.declared.state.State.{State}
use Rattle.ixp_machine_steps.specs.declared.subject.Subject.{Subject}
use Rattle.ixp_machine_steps.specs.declared.subject.Subject.TheVariants as about
use Rattle.ixp_store_words.specs.declared.words.Form.{Form}
use Rattle.ixp_store_words.specs.declared.words.Form.TheVariants.{OneNumber, TwoNumbers, WithFamily, RouterHandle, SharedList}

-- what an edit of the kind is about
abbrev pub form_of : EditKind → Form
form_of kind.PutContact = TwoNumbers
form_of kind.DropContact = TwoNumbers
form_of kind.SetAddress = WithFamily
form_of kind.PutIrr = WithFamily
form_of kind.PutOrigins = WithFamily
form_of kind.AddRouter = RouterHandle
form_of kind.SetRouter = RouterHandle
form_of kind.DropRouter = RouterHandle
form_of kind.PutPublic = SharedList
form_of other = OneNumber

-- a subject of the form: numbers of 32 bits, of which a second one may have to be 4 or 6, a route server's
-- handle, or a public list
abbrev pub HasForm : Form → Subject → Type 0
HasForm OneNumber (about.Number n) = IsNumber n
HasForm TwoNumbers (about.Pair m n) = IsNumber m × IsNumber n
HasForm WithFamily (about.Pair m n) = IsNumber m × ((n ≡ 4) ⊎ (n ≡ 6))
HasForm RouterHandle (about.Handle h) = is_handle h ≡ true
HasForm SharedList (about.Public p) = Unit {0}
HasForm form subject = ⊥

-- a kept number's subject is one that its kind of edit has
abbrev pub HasSubject : KeptNumber → Type 0
HasSubject k = HasForm (form_of k.kind) k.subject

-- something is kept for the owner
abbrev pub KeepsSome : KeptOwner → Type 0
KeepsSome o = (o.floor ≢ 0) ⊎ (o.numbers ≢ [])

-- what is kept may stand in a store
abbrev pub AreStorable : List KeptOwner → Type 0
AreStorable ks = AllByRecursion (λ o. KeepsSome o × AllByRecursion HasSubject o.numbers) ks

-- The count has 64 bits, something is kept for each owner who is there, and kept numbers have subjects of
-- their kind.
pub record IsStorable (s : State) : Type 0 where
  pub accepted : s.accepted < 2 ^ 64
  pub some : AllByRecursion KeepsSome s.kept
  pub subjects : AllByRecursion (λ o. AllByRecursion HasSubject o.numbers) s.kept
