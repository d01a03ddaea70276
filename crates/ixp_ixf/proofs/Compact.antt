-- What is written piece by piece is the compact text of the tree.
use Rattle.std.proofs.Common.{◌≡◌, ℕ, List, [], ◌∷◌, ◌++◌, Bool, true, false, Option, Some, None, codes, decimal, refl, sym, ap, ◌∙◌}
use Rattle.std.proofs.lemmas.List.{append_assoc}
use Rattle.json.specs.Print.{quoted}
use Rattle.serde_json.specs.Data.{Data, boolean, string, object, Members, no_members, member}
use Rattle.serde_json.specs.Written.{compact_text, items_text, members_text}
use Rattle.ixp_num_tables.specs.Joined.{more_joined}
use Rattle.ixp_api_json.specs.Members.{number_member, text_member}
use Rattle.ixp_num.specs.declared.prefix.Prefix.{Prefix}
use Rattle.ixp_num.specs.Printing.{addr_text}
use Rattle.ixp_registry.specs.declared.members.Member.{Member}
use Rattle.ixp_registry.specs.declared.network.Port.{Port}
use Rattle.ixp_registry.specs.declared.network.IfAddr.{IfAddr}
use Rattle.ixp_registry.specs.declared.network.Interface.{Interface}
use Rattle.ixp_registry.specs.declared.registry.Registry.{Registry}
use Rattle.ixp_ixf.specs.Moments.{moment_text}
use Rattle.ixp_ixf.specs.Export as tree
use Rattle.ixp_ixf.specs.Export.{natural, items_of, list_of, if_any}
use Rattle.ixp_ixf.specs.Texts as text
use Rattle.ixp_ixf.specs.Texts.{name_text, list_text, list_member, single_member, first_address, length_member, network_member, text_if_any, number_if_any, flag_text, flag_member, address_member, connections_member}
use Rattle.ixp_ixf.specs.Views.{ixf_text_of}

on : (l : List ℕ) {a b : List ℕ} → a ≡ b → l ++ a ≡ l ++ b
on l e = ap (λ x. l ++ x) e

-- a text is the tree's
abbrev pub Same : {A : Type 0} → (A → List ℕ) → (A → Data) → Type 0
Same {A} text tree = (x : A) → text x ≡ compact_text (tree x)

more_items : {A : Type 0} (text : A → List ℕ) (tree : A → Data) → Same text tree → (xs : List A) → more_joined (codes ",") text xs ++ codes "]" ≡ items_text true (items_of tree xs)
more_items text tree same [] = refl
more_items text tree same (x ∷ xs) =
    ap (λ l. 44 ∷ l) (append_assoc (text x) (more_joined (codes ",") text xs) (codes "]") ∙ (on (text x) (more_items text tree same xs) ∙ ap (λ l. l ++ items_text true (items_of tree xs)) (same x)))

list_same : {A : Type 0} (text : A → List ℕ) (tree : A → Data) → Same text tree → (xs : List A) → list_text text xs ≡ compact_text (list_of tree xs)
list_same text tree same [] = refl
list_same text tree same (x ∷ xs) =
    ap (λ l. 91 ∷ l) (append_assoc (text x) (more_joined (codes ",") text xs) (codes "]") ∙ (on (text x) (more_items text tree same xs) ∙ ap (λ l. l ++ items_text true (items_of tree xs)) (same x)))

-- a name and a value behind a mark, and more
named : (mark name value rest : List ℕ) → (name_text mark name ++ value) ++ rest ≡ mark ++ (quoted name ++ 58 ∷ (value ++ rest))
unfolding name_text
named mark name value rest =
    append_assoc (mark ++ (quoted name ++ codes ":")) value rest
    ∙ (append_assoc mark (quoted name ++ codes ":") (value ++ rest)
    ∙ on mark (append_assoc (quoted name) (codes ":") (value ++ rest)))

-- the first member of an object, and one behind others
first : (name value : List ℕ) (d : Data) → value ≡ compact_text d → (rest : Members) → (name_text (codes "{") name ++ value) ++ members_text true rest ≡ compact_text (object (member name d rest))
first name value d same rest =
    named (codes "{") name value (members_text true rest) ∙ ap (λ v. 123 ∷ (quoted name ++ 58 ∷ (v ++ members_text true rest))) same

next : (name value : List ℕ) (d : Data) → value ≡ compact_text d → (rest : Members) → (name_text (codes ",") name ++ value) ++ members_text true rest ≡ members_text true (member name d rest)
next name value d same rest =
    named (codes ",") name value (members_text true rest) ∙ ap (λ v. 44 ∷ (quoted name ++ 58 ∷ (v ++ members_text true rest))) same

first_number : (name : List ℕ) (n : ℕ) (rest : Members) → number_member (codes "{") name n ++ members_text true rest ≡ compact_text (object (member name (natural n) rest))
unfolding number_member name_text
first_number name n rest = first name (decimal n) (natural n) refl rest

next_number : (name : List ℕ) (n : ℕ) (rest : Members) → number_member (codes ",") name n ++ members_text true rest ≡ members_text true (member name (natural n) rest)
unfolding number_member name_text
next_number name n rest = next name (decimal n) (natural n) refl rest

first_text : (name s : List ℕ) (rest : Members) → text_member (codes "{") name s ++ members_text true rest ≡ compact_text (object (member name (string s) rest))
unfolding text_member name_text
first_text name s rest = first name (quoted s) (string s) refl rest

next_text : (name s : List ℕ) (rest : Members) → text_member (codes ",") name s ++ members_text true rest ≡ members_text true (member name (string s) rest)
unfolding text_member name_text
next_text name s rest = next name (quoted s) (string s) refl rest

first_single : {A : Type 0} (text : A → List ℕ) (tree : A → Data) → Same text tree → (name : List ℕ) (x : A) (rest : Members) → single_member (codes "{") name (text x) ++ members_text true rest ≡ compact_text (object (member name (list_of tree (x ∷ [])) rest))
unfolding single_member
first_single text tree same name x rest =
    first name (codes "[" ++ (text x ++ codes "]")) (list_of tree (x ∷ [])) (ap (λ l. 91 ∷ (l ++ codes "]")) (same x)) rest

next_list : {A : Type 0} (text : A → List ℕ) (tree : A → Data) → Same text tree → (name : List ℕ) (xs : List A) (rest : Members) → list_member (codes ",") name text xs ++ members_text true rest ≡ members_text true (member name (list_of tree xs) rest)
unfolding list_member
next_list text tree same name xs rest = next name (list_text text xs) (list_of tree xs) (list_same text tree same xs) rest

network_same : Same text.network_text tree.network_tree
unfolding first_address length_member
network_same p =
    let last : Members = member (codes "prefix") (string (first_address p)) no_members in
    on (number_member (codes "{") (codes "mask_length") p.len) (next_text (codes "prefix") (first_address p) no_members)
    ∙ first_number (codes "mask_length") p.len last

next_network : (name : List ℕ) (o : Option Prefix) (rest : Members) → network_member (codes ",") name o ++ members_text true rest ≡ members_text true (if_any name tree.network_tree o rest)
unfolding network_member
next_network name None rest = refl
next_network name (Some p) rest = next name (text.network_text p) (tree.network_tree p) (network_same p) rest

vlan_same : Same text.vlan_text tree.vlan_tree
vlan_same v =
    let last : Members = member (codes "name") (string v.name) no_members in
    let six : Members = if_any (codes "ipv6") tree.network_tree v.v6 last in
    let four : Members = if_any (codes "ipv4") tree.network_tree v.v4 six in
    on (number_member (codes "{") (codes "id") v.number)
    (on (network_member (codes ",") (codes "ipv4") v.v4)
    (on (network_member (codes ",") (codes "ipv6") v.v6) (next_text (codes "name") v.name no_members)
    ∙ next_network (codes "ipv6") v.v6 last)
    ∙ next_network (codes "ipv4") v.v4 six)
    ∙ first_number (codes "id") v.number four

switch_same : Same text.switch_text tree.switch_tree
switch_same s =
    on (number_member (codes "{") (codes "id") s.number) (next_text (codes "name") s.name no_members)
    ∙ first_number (codes "id") s.number (member (codes "name") (string s.name) no_members)

exchange_same : Same text.exchange_text tree.exchange_tree
exchange_same r =
    let vlans : Members = member (codes "vlan") (list_of tree.vlan_tree r.vlans) no_members in
    let switches : Members = member (codes "switch") (list_of tree.switch_tree r.switches) vlans in
    let name : Members = member (codes "shortname") (string r.site.shortname) switches in
    let ixp : Members = member (codes "ixp_id") (natural r.site.ixp_id) name in
    on (number_member (codes "{") (codes "ixf_id") r.site.ixf_id)
    (on (number_member (codes ",") (codes "ixp_id") r.site.ixp_id)
    (on (text_member (codes ",") (codes "shortname") r.site.shortname)
    (on (list_member (codes ",") (codes "switch") text.switch_text r.switches)
    (next_list text.vlan_text tree.vlan_tree vlan_same (codes "vlan") r.vlans no_members)
    ∙ next_list text.switch_text tree.switch_tree switch_same (codes "switch") r.switches vlans)
    ∙ next_text (codes "shortname") r.site.shortname switches)
    ∙ next_number (codes "ixp_id") r.site.ixp_id name)
    ∙ first_number (codes "ixf_id") r.site.ixf_id ixp

next_text_if_any : (name : List ℕ) (o : Option (List ℕ)) (rest : Members) → text_if_any (codes ",") name o ++ members_text true rest ≡ members_text true (if_any name string o rest)
unfolding text_if_any
next_text_if_any name None rest = refl
next_text_if_any name (Some s) rest = next_text name s rest

next_number_if_any : (name : List ℕ) (o : Option ℕ) (rest : Members) → number_if_any (codes ",") name o ++ members_text true rest ≡ members_text true (if_any name natural o rest)
unfolding number_if_any
next_number_if_any name None rest = refl
next_number_if_any name (Some n) rest = next_number name n rest

flag_same : Same flag_text boolean
flag_same true = refl
flag_same false = refl

next_flag : (name : List ℕ) (flag : Bool) (rest : Members) → flag_member (codes ",") name flag ++ members_text true rest ≡ members_text true (member name (boolean flag) rest)
unfolding flag_member
next_flag name flag rest = next name (flag_text flag) (boolean flag) (flag_same flag) rest

address_same : (as_macro : List ℕ) → Same (text.address_text as_macro) (tree.address_tree as_macro)
address_same as_macro a =
    let flag : Members = member (codes "routeserver") (boolean a.rs) no_members in
    let most : Members = if_any (codes "max_prefix") natural (tree.some_number a.max_prefix) flag in
    let set : Members = if_any (codes "as_macro") string (tree.some_text as_macro) most in
    on (text_member (codes "{") (codes "address") (addr_text a.addr))
    (on (text_if_any (codes ",") (codes "as_macro") (tree.some_text as_macro))
    (on (number_if_any (codes ",") (codes "max_prefix") (tree.some_number a.max_prefix)) (next_flag (codes "routeserver") a.rs no_members)
    ∙ next_number_if_any (codes "max_prefix") (tree.some_number a.max_prefix) flag)
    ∙ next_text_if_any (codes "as_macro") (tree.some_text as_macro) most)
    ∙ first_text (codes "address") (addr_text a.addr) set

-- members of which there are some: behind others they have a comma
abbrev pub Follow : Members → Type 0
Follow ms = members_text true ms ≡ 44 ∷ members_text false ms

follow_if_any : {A : Type 0} (name : List ℕ) (tree : A → Data) (o : Option A) (rest : Members) → Follow rest → Follow (if_any name tree o rest)
follow_if_any name tree None rest some = some
follow_if_any name tree (Some x) rest some = refl

-- a member that may be the first one, with the comma of the next
before : (as_macro name : List ℕ) (o : Option IfAddr) (rest : Members) → Follow rest → address_member name as_macro o ++ members_text false rest ≡ members_text false (if_any name (tree.address_tree as_macro) o rest)
unfolding address_member
before as_macro name None rest some = refl
before as_macro name (Some a) rest some =
    named [] name (text.address_text as_macro a ++ codes ",") (members_text false rest)
    ∙ ap (λ l. quoted name ++ 58 ∷ l)
    (append_assoc (text.address_text as_macro a) (codes ",") (members_text false rest)
    ∙ (on (text.address_text as_macro a) (sym some)
    ∙ ap (λ l. l ++ members_text true rest) (address_same as_macro a)))

only_number : (name : List ℕ) (n : ℕ) → number_member [] name n ++ codes "}" ≡ members_text false (member name (natural n) no_members)
unfolding number_member name_text
only_number name n = named [] name (decimal n) (codes "}")

interface_same : (as_macro : List ℕ) → Same (text.interface_text as_macro) (tree.interface_tree as_macro)
interface_same as_macro i =
    let last : Members = member (codes "vlan_id") (natural i.vlan) no_members in
    let six : Members = if_any (codes "ipv6") (tree.address_tree as_macro) i.v6 last in
    ap (λ l. 123 ∷ l)
    (on (address_member (codes "ipv4") as_macro i.v4)
    (on (address_member (codes "ipv6") as_macro i.v6) (only_number (codes "vlan_id") i.vlan)
    ∙ before as_macro (codes "ipv6") i.v6 last refl)
    ∙ before as_macro (codes "ipv4") i.v4 six (follow_if_any (codes "ipv6") (tree.address_tree as_macro) i.v6 last refl))

port_same : Same text.port_text tree.port_tree
port_same p =
    on (number_member (codes "{") (codes "if_speed") p.speed) (next_number (codes "switch_id") p.switch no_members)
    ∙ first_number (codes "if_speed") p.speed (member (codes "switch_id") (natural p.switch) no_members)

connection_same : (r : Registry) (m : Member) → Same (text.connection_text r m) (tree.connection_tree r m)
connection_same r m p =
    let here : List Interface = tree.interfaces_on r p in
    let vlans : Members = member (codes "vlan_list") (list_of (tree.interface_tree m.as_macro) here) no_members in
    let ixp : Members = member (codes "ixp_id") (natural r.site.ixp_id) vlans in
    on (single_member (codes "{") (codes "if_list") (text.port_text p))
    (on (number_member (codes ",") (codes "ixp_id") r.site.ixp_id)
    (next_list (text.interface_text m.as_macro) (tree.interface_tree m.as_macro) (interface_same m.as_macro) (codes "vlan_list") here no_members)
    ∙ next_number (codes "ixp_id") r.site.ixp_id vlans)
    ∙ first_single text.port_text tree.port_tree port_same (codes "if_list") p ixp

member_same : (r : Registry) → Same (text.member_text r) (tree.member_tree r)
unfolding connections_member
member_same r m =
    let name : Members = member (codes "name") (string m.name) no_members in
    let ports : List Port = tree.ports_of r m in
    let links : Members = member (codes "connection_list") (list_of (tree.connection_tree r m) ports) name in
    on (number_member (codes "{") (codes "asnum") m.asn.0)
    (on (list_member (codes ",") (codes "connection_list") (text.connection_text r m) ports) (next_text (codes "name") m.name no_members)
    ∙ next_list (text.connection_text r m) (tree.connection_tree r m) (connection_same r m) (codes "connection_list") ports name)
    ∙ first_number (codes "asnum") m.asn.0 links

pub export_same : (r : Registry) (second : ℕ) → text.export_text r second ≡ ixf_text_of r second
unfolding ixf_text_of
export_same r second =
    let version : Members = member (codes "version") (string (codes "1.0")) no_members in
    let stamp : Members = member (codes "timestamp") (string (moment_text second)) version in
    let members : Members = member (codes "member_list") (tree.members_tree r) stamp in
    on (single_member (codes "{") (codes "ixp_list") (text.exchange_text r))
    (on (list_member (codes ",") (codes "member_list") (text.member_text r) (tree.connected_members r))
    (on (text_member (codes ",") (codes "timestamp") (moment_text second)) (next_text (codes "version") (codes "1.0") no_members)
    ∙ next_text (codes "timestamp") (moment_text second) version)
    ∙ next_list (text.member_text r) (tree.member_tree r) (member_same r) (codes "member_list") (tree.connected_members r) stamp)
    ∙ first_single text.exchange_text tree.exchange_tree exchange_same (codes "ixp_list") r members
