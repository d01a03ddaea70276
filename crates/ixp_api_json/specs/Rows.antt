-- Rows as JSON, without blanks, each with its names in ascending order.
use Rattle.std.specs.Prelude.{ℕ, List, ◌++◌, codes}
use Rattle.ixp_num_tables.specs.Joined.{joined}
use Rattle.ixp_registry.specs.declared.members.Member.{Member}
use Rattle.ixp_registry.specs.declared.members.Contact.{Contact}
use Rattle.ixp_registry.specs.declared.rules.MemberRule.{MemberRule}
use Rattle.ixp_registry.specs.declared.rules.Action.{Action}
use Rattle.ixp_api_json.specs.Members.{number_member, text_member, asn_member, prefix_member}
use Rattle.ixp_api_json.specs.Words.{status_word, way_word, action_word}

abbrev pub member_json : Member → List ℕ
member_json m =
    number_member (codes "{") (codes "asn") m.asn.0
    ++ (text_member (codes ",") (codes "macro") m.as_macro
    ++ (text_member (codes ",") (codes "name") m.name
    ++ (number_member (codes ",") (codes "number") m.number
    ++ (text_member (codes ",") (codes "status") (status_word m.status) ++ codes "}"))))

abbrev pub contact_json : Contact → List ℕ
contact_json c =
    text_member (codes "{") (codes "mail") c.mail
    ++ (number_member (codes ",") (codes "member") c.member
    ++ (text_member (codes ",") (codes "name") c.name
    ++ (number_member (codes ",") (codes "place") c.place
    ++ (text_member (codes ",") (codes "role") c.role ++ codes "}"))))

abbrev pub action_member : List ℕ → List ℕ → Action → List ℕ
action_member mark name action = text_member mark name (action_word action)

unfoldable pub rule_end : MemberRule → List ℕ
rule_end r =
    number_member (codes ",") (codes "place") r.place
    ++ (prefix_member (codes ",") (codes "prefix") r.prefix
    ++ (text_member (codes ",") (codes "way") (way_word r.way) ++ codes "}"))

-- any other network, and any net, are null
abbrev pub rule_json : MemberRule → List ℕ
rule_json r =
    action_member (codes "{") (codes "action") r.action
    ++ (number_member (codes ",") (codes "member") r.member
    ++ (asn_member (codes ",") (codes "peer") r.peer
    ++ rule_end r))

abbrev pub list_json : {A : Type 0} → (A → List ℕ) → List A → List ℕ
list_json json items = codes "[" ++ (joined (codes ",") json items ++ codes "]")
