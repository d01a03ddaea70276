-- Paths by a table.
use Rattle.std.specs.Prelude.{ℕ, List, [], ◌∷◌, Bool, true, false, cond, Option, Some, None, ◌==◌, codes, nat_eq, option_and_then, option_map, if◌then◌else◌}
use Rattle.std.specs.Cmp.Lexicographic.{pointwise}
use Rattle.ixp_num.specs.declared.family.Family.{Family}
use Rattle.ixp_num.specs.declared.family.Family.TheVariants.{V4, V6}
use Rattle.ixp_registry.specs.Alphabets.{is_handle}
use Rattle.ixp_api_paths.specs.declared.table.Word.{Word}
use Rattle.ixp_api_paths.specs.declared.table.Word.TheVariants as word
use Rattle.ixp_api_paths.specs.declared.table.ListName.{ListName}
use Rattle.ixp_api_paths.specs.declared.table.ListName.TheVariants as list
use Rattle.ixp_api_paths.specs.declared.table.Part.{Part}
use Rattle.ixp_api_paths.specs.declared.table.Part.TheVariants as part
use Rattle.ixp_api_paths.specs.declared.table.Args.{Args}
use Rattle.ixp_api_paths.specs.declared.table.Entry.{Entry}
use Rattle.ixp_api_paths.specs.declared.table.Kind.{Kind}
use Rattle.ixp_api_paths.specs.declared.served.Found.{Found}
use Rattle.ixp_api_paths.specs.declared.served.Found.TheVariants.{NoPath, NoMethod, Call}
use Rattle.ixp_num_tables.specs.Decimals.{number_upto}

abbrev pub same_bytes : List ℕ → List ℕ → Bool
same_bytes a b = pointwise nat_eq a b

abbrev pub word_text : Word → List ℕ
word_text word.Members = codes "members"
word_text word.Name = codes "name"
word_text word.Status = codes "status"
word_text word.Macro = codes "macro"
word_text word.Contacts = codes "contacts"
word_text word.Irr = codes "irr"
word_text word.Origins = codes "origins"
word_text word.Rules = codes "rules"
word_text word.Keys = codes "keys"
word_text word.Switches = codes "switches"
word_text word.Ports = codes "ports"
word_text word.Member = codes "member"
word_text word.Vlans = codes "vlans"
word_text word.Use = codes "use"
word_text word.Interfaces = codes "interfaces"
word_text word.Routers = codes "routers"
word_text word.Config = codes "config"
word_text word.Explain = codes "explain"
word_text word.Ixf = codes "ixf"
word_text word.Dump = codes "dump"
word_text word.Public = codes "public"
word_text word.Glass = codes "glass"
word_text word.Bogons = codes "bogons"
word_text word.BogonAs = codes "bogon_as"
word_text word.Transit = codes "transit"
word_text word.Roas = codes "roas"

-- what stands before the first slash
abbrev pub front : List ℕ → List ℕ
front [] = []
front (b ∷ rest) = cond (b == 47) [] (b ∷ front rest)

-- what stands behind the first slash; None: there is none
abbrev pub behind : List ℕ → Option (List ℕ)
behind [] = None
behind (b ∷ rest) = cond (b == 47) (Some rest) (behind rest)

-- what stands behind the slash with which a path begins
abbrev pub behind_root : List ℕ → Option (List ℕ)
behind_root [] = None
behind_root (b ∷ rest) = cond (b == 47) (Some rest) None

abbrev pub family_of : List ℕ → Option Family
family_of text = if same_bytes text (codes "4") then Some V4
    else (if same_bytes text (codes "6") then Some V6 else None)

abbrev pub list_of : List ℕ → Option ListName
list_of text =
    if same_bytes text (word_text word.Bogons) then Some list.Bogons
    else (if same_bytes text (word_text word.BogonAs) then Some list.BogonAs
    else (if same_bytes text (word_text word.Transit) then Some list.Transit
    else (if same_bytes text (word_text word.Roas) then Some list.Roas else None)))

-- what a path without open parts holds
abbrev pub no_args : Args
no_args = record { row = 0; place = 0; family = V4; list = list.Bogons; router = None }

abbrev pub with_row : Args → List ℕ → Option Args
with_row args text = option_map (λ n. record args { row = n }) (number_upto 4294967295 text)

abbrev pub with_place : Args → List ℕ → Option Args
with_place args text = option_map (λ n. record args { place = n }) (number_upto 4294967295 text)

abbrev pub with_family : Args → List ℕ → Option Args
with_family args text = option_map (λ f. record args { family = f }) (family_of text)

abbrev pub with_list : Args → List ℕ → Option Args
with_list args text = option_map (λ l. record args { list = l }) (list_of text)

abbrev pub with_router : Args → List ℕ → Option Args
with_router args text = if is_handle text then Some (record args { router = Some text }) else None

-- a part of a path read by a part of the table
abbrev pub take_part : Part → Args → List ℕ → Option Args
take_part (part.Is w) args text = cond (same_bytes text (word_text w)) (Some args) None
take_part part.Row args text = with_row args text
take_part part.Place args text = with_place args text
take_part part.Family args text = with_family args text
take_part part.List args text = with_list args text
take_part part.Router args text = with_router args text
take_part part.End args text = None

abbrev pub is_end : Part → Bool
is_end (part.Is w) = false
is_end part.Row = false
is_end part.Place = false
is_end part.Family = false
is_end part.List = false
is_end part.Router = false
is_end part.End = true

-- a text behind a slash, or none, read by parts
abbrev pub read : Args → List Part → Option (List ℕ) → Option Args
read args [] None = Some args
read args [] (Some text) = None
read args (p ∷ ps) None = cond (is_end p) (read args ps None) None
read args (p ∷ ps) (Some text) =
    option_and_then (λ more. read more ps (behind text)) (take_part p args (front text))

abbrev pub on_read : Entry → Option Args → Option (Entry × Args) → Option (Entry × Args)
on_read e None rest = rest
on_read e (Some args) rest = Some (e, args)

-- the first entry whose parts read the path, with what they read
abbrev pub find : List Entry → List ℕ → Option (Entry × Args)
find [] path = None
find (e ∷ es) path = on_read e (read no_args e.parts (behind_root path)) (find es path)

-- what a method calls for (RFC 9110 section 9)
abbrev pub kind_at : List ℕ → Entry → Option Kind
kind_at method e =
    if same_bytes method (codes "GET") then e.get
    else (if same_bytes method (codes "POST") then e.post
    else (if same_bytes method (codes "PUT") then e.put
    else (if same_bytes method (codes "DELETE") then e.delete else None)))

abbrev pub call_of : Args → Option Kind → Found
call_of args None = NoMethod
call_of args (Some kind) = Call kind args

-- no path, else no method of the path, else a call
abbrev pub found_of : List ℕ → Option (Entry × Args) → Found
found_of method None = NoPath
found_of method (Some hit) = call_of hit.1 (kind_at method hit.0)
