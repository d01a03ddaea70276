-- The method and the path of each kind of call, and what a method and a path name by them.
use Rattle.std.specs.Prelude.{◌≡◌, ◌↔◌, ℕ, List, [], ◌∷◌, cond, Option, Some, None, ◌==◌, codes, option_and_then, if◌then◌else◌}
use Rattle.ixp_registry.specs.Widths.{AreBytes}
use Rattle.ixp_registry.specs.declared.edit_kind.EditKind.{EditKind}
use Rattle.ixp_registry.specs.declared.edit_kind.EditKind.TheVariants as edit
use Rattle.ixp_api_paths.specs.declared.table.Args.{Args}
use Rattle.ixp_api_paths.specs.declared.table.Kind.{Kind}
use Rattle.ixp_api_paths.specs.declared.table.Kind.TheVariants as kind
use Rattle.ixp_api_paths.specs.declared.table.Question.{Question}
use Rattle.ixp_api_paths.specs.declared.table.Question.TheVariants as question
use Rattle.ixp_api_paths.specs.declared.served.Found.TheVariants.{NoPath, Call}
use Rattle.ixp_api_paths.specs.Paths.{same_bytes, with_row, with_place, with_family, with_list, with_router, no_args}
use Rattle.ixp_api_paths.specs.Table.{look}

-- a method (RFC 9110 section 9), and a template of paths: what stands in braces is open (RFC 6570 section
-- 1.2)
pub record Address : Type 0 where
  pub method : List ℕ
  pub path : List ℕ

abbrev get : List ℕ → Address
get path = record { method = codes "GET"; path = path }

abbrev post : List ℕ → Address
post path = record { method = codes "POST"; path = path }

abbrev put : List ℕ → Address
put path = record { method = codes "PUT"; path = path }

abbrev delete : List ℕ → Address
delete path = record { method = codes "DELETE"; path = path }

abbrev pub edit_at : EditKind → Address
edit_at edit.AddMember = post (codes "/members")
edit_at edit.RenameMember = put (codes "/members/{row}/name")
edit_at edit.MoveStatus = put (codes "/members/{row}/status")
edit_at edit.SetMacro = put (codes "/members/{row}/macro")
edit_at edit.PutContact = put (codes "/members/{row}/contacts/{place}")
edit_at edit.DropContact = delete (codes "/members/{row}/contacts/{place}")
edit_at edit.AddKey = post (codes "/keys")
edit_at edit.DropKey = delete (codes "/keys/{row}")
edit_at edit.AddSwitch = post (codes "/switches")
edit_at edit.DropSwitch = delete (codes "/switches/{row}")
edit_at edit.AddPort = post (codes "/ports")
edit_at edit.AssignPort = put (codes "/ports/{row}/member")
edit_at edit.FreePort = delete (codes "/ports/{row}/member")
edit_at edit.DropPort = delete (codes "/ports/{row}")
edit_at edit.AddVlan = post (codes "/vlans")
edit_at edit.DropVlan = delete (codes "/vlans/{row}")
edit_at edit.AddInterface = post (codes "/interfaces")
edit_at edit.SetAddress = put (codes "/interfaces/{row}/{family}")
edit_at edit.DropInterface = delete (codes "/interfaces/{row}")
edit_at edit.AddRouter = post (codes "/routers")
edit_at edit.SetRouter = put (codes "/routers/{router}")
edit_at edit.DropRouter = delete (codes "/routers/{router}")
edit_at edit.PutIrr = put (codes "/members/{row}/irr/{family}")
edit_at edit.PutOrigins = put (codes "/members/{row}/origins/{family}")
edit_at edit.SetRules = put (codes "/members/{row}/rules")
edit_at edit.PutPublic = put (codes "/public/{list}")

abbrev pub question_at : Question → Address
question_at question.Member = get (codes "/members/{row}")
question_at question.Contacts = get (codes "/members/{row}/contacts")
question_at question.Rules = get (codes "/members/{row}/rules")
question_at question.Use = get (codes "/vlans/{row}/use/{family}")
question_at question.Ixf = get (codes "/ixf")
question_at question.Dump = get (codes "/dump")

abbrev pub address_of : Kind → Address
address_of (kind.Edit e) = edit_at e
address_of (kind.Ask q) = question_at q
address_of kind.Config = get (codes "/routers/{router}/config")
address_of kind.Explain = post (codes "/routers/{router}/explain/{row}")
address_of kind.Hold = put (codes "/glass/{router}/{row}")
address_of kind.Glass = get (codes "/glass/{router}/{row}")
address_of kind.GlassPlace = get (codes "/glass/{router}/{row}/{place}")

abbrev pub onto_first : ℕ → List (List ℕ) → List (List ℕ)
onto_first b [] = (b ∷ []) ∷ []
onto_first b (s ∷ ss) = (b ∷ s) ∷ ss

-- what stands before, between and behind the slashes of a text (RFC 3986 section 3.3)
abbrev pub segments : List ℕ → List (List ℕ)
segments [] = [] ∷ []
segments (b ∷ rest) = cond (b == 47) ([] ∷ segments rest) (onto_first b (segments rest))

-- a segment of a path by that of a template: an open one takes what it stands for, any other one itself
abbrev pub read_segment : List ℕ → Args → List ℕ → Option Args
read_segment segment args text =
    if same_bytes segment (codes "{row}") then with_row args text
    else (if same_bytes segment (codes "{place}") then with_place args text
    else (if same_bytes segment (codes "{family}") then with_family args text
    else (if same_bytes segment (codes "{list}") then with_list args text
    else (if same_bytes segment (codes "{router}") then with_router args text
    else (if same_bytes text segment then Some args else None)))))

-- segment by segment: there are as many of them, and each is read
abbrev pub read_segments : Args → List (List ℕ) → List (List ℕ) → Option Args
read_segments args [] [] = Some args
read_segments args [] (t ∷ ts) = None
read_segments args (s ∷ ss) [] = None
read_segments args (s ∷ ss) (t ∷ ts) =
    option_and_then (λ more. read_segments more ss ts) (read_segment s args t)

-- what stands in the open parts of a path, if it is one of this template
abbrev pub read_by : List ℕ → List ℕ → Option Args
read_by template path = read_segments no_args (segments template) (segments path)

-- the method and the path are those of a kind of call, with this in the path's open parts
abbrev pub IsCallOf : List ℕ → List ℕ → Kind → Args → Type 0
IsCallOf method path kind args =
    (method ≡ (address_of kind).method) × (read_by (address_of kind).path path ≡ Some args)

-- no kind of call has a path that this is
abbrev pub IsNoPath : List ℕ → Type 0
IsNoPath path = (k : Kind) → read_by (address_of k).path path ≡ None

-- Of a path of bytes a call is named exactly where the method and the path are those of its kind.
abbrev pub CallsAreByKind : Type 0
CallsAreByKind = (method path : List ℕ) (kind : Kind) (args : Args) → AreBytes path
    → (look method path ≡ Call kind args) ↔ IsCallOf method path kind args

-- No path is named exactly where no kind has it. So no method is named exactly where some kind has the path,
-- and none that has it has the method.
abbrev pub PathsAreByKind : Type 0
PathsAreByKind = (method path : List ℕ) → (look method path ≡ NoPath) ↔ IsNoPath path
