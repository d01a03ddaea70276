-- What is found object by object. Nobody has to believe this: what a text says is in Objects.antt.
use Rattle.std.specs.Prelude.{◌≡◌, ℕ, false, List}
use Rattle.ixp_rpsl.specs.Lines.{Line}
use Rattle.ixp_rpsl.specs.Attributes.{bad_line, past_object, whole_value}
use Rattle.ixp_rpsl.specs.Values.{trimmed}
use Rattle.ixp_rpsl.specs.Objects.{AllSay, KindSays, ObjectSays, at_fault, joined, objects}
use Rattle.ixp_rpsl.specs.declared.entries.Kind.{Kind}
use Rattle.ixp_rpsl.specs.declared.found.Found.{Found}

-- what an object of a kind says is found beside what was, and what is behind it is ahead
abbrev pub FindsOf : Kind → ℕ → List ℕ → List Line → List Line → Found → Found → Type 0
FindsOf kind first key ls rest old new =
    (said : Found) × KindSays kind first (trimmed (whole_value key ls)) ls said
    × (new ≡ joined old (joined (at_fault (bad_line ls)) said)) × (rest ≡ past_object ls)

abbrev pub Finds : Line → List Line → List Line → Found → Found → Type 0
Finds l ls rest old new = (one : Found) × ObjectSays l ls one × (new ≡ joined old one)
    × (rest ≡ past_object ls)

-- what objects say is found beside what was, up to these lines, whatever is found there
abbrev pub Passes : List Line → List Line → Found → Found → Type 0
Passes ls rest old new =
    (others : Found) → AllSay (objects false rest) others
    → (all : Found) × AllSay (objects false ls) all × (joined new others ≡ joined old all)
