-- The words of bodies and replies.
use Rattle.std.specs.Prelude.{ℕ, List, ◌++◌, Bool, Option, Some, None, decimal, codes, nat_eq, if◌then◌else◌}
use Rattle.std.specs.Cmp.Lexicographic.{pointwise}
use Rattle.ixp_num.specs.declared.family.Family.{Family}
use Rattle.ixp_num.specs.declared.family.Family.TheVariants.{V4, V6}
use Rattle.ixp_registry.specs.declared.members.Status.{Status}
use Rattle.ixp_registry.specs.declared.members.Status.TheVariants.{Noted, Connected, Suspended, Left}
use Rattle.ixp_registry.specs.declared.rules.Way.{Way}
use Rattle.ixp_registry.specs.declared.rules.Way.TheVariants.{Advertise, Receive}
use Rattle.ixp_registry.specs.declared.rules.Action.{Action}
use Rattle.ixp_registry.specs.declared.rules.Action.TheVariants.{AsIs, Prepend, Stop}
use Rattle.ixp_api_json.specs.declared.words.OwnerKind.{OwnerKind}
use Rattle.ixp_api_json.specs.declared.words.OwnerKind.TheVariants as owner

abbrev pub same_bytes : List ℕ → List ℕ → Bool
same_bytes a b = pointwise nat_eq a b

abbrev pub status_word : Status → List ℕ
status_word Noted = codes "noted"
status_word Connected = codes "connected"
status_word Suspended = codes "suspended"
status_word Left = codes "left"

abbrev pub status_of : List ℕ → Option Status
status_of text =
    if same_bytes text (codes "noted") then Some Noted
    else (if same_bytes text (codes "connected") then Some Connected
    else (if same_bytes text (codes "suspended") then Some Suspended
    else (if same_bytes text (codes "left") then Some Left else None)))

abbrev pub way_word : Way → List ℕ
way_word Advertise = codes "advertise"
way_word Receive = codes "receive"

abbrev pub way_of : List ℕ → Option Way
way_of text =
    if same_bytes text (codes "advertise") then Some Advertise
    else (if same_bytes text (codes "receive") then Some Receive else None)

abbrev pub action_word : Action → List ℕ
action_word AsIs = codes "as-is"
action_word (Prepend n) = codes "prepend" ++ decimal n
action_word Stop = codes "stop"

abbrev pub action_of : List ℕ → Option Action
action_of text =
    if same_bytes text (codes "as-is") then Some AsIs
    else (if same_bytes text (codes "prepend1") then Some (Prepend 1)
    else (if same_bytes text (codes "prepend2") then Some (Prepend 2)
    else (if same_bytes text (codes "prepend3") then Some (Prepend 3)
    else (if same_bytes text (codes "stop") then Some Stop else None))))

abbrev pub owner_kind_of : List ℕ → Option OwnerKind
owner_kind_of text =
    if same_bytes text (codes "staff") then Some owner.Staff
    else (if same_bytes text (codes "member") then Some owner.Member else None)

abbrev pub family_word : Family → List ℕ
family_word V4 = codes "4"
family_word V6 = codes "6"
