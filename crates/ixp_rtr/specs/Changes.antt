-- The difference of two sets of ROAs.
use Rattle.std.specs.Prelude.{Bool, true, false, not, List, ◌++◌, filter, map}
use Rattle.std.specs.List.{list_any}
use Rattle.ixp_num.specs.declared.roa.Roa.{Roa}
use Rattle.ixp_num_tables.specs.Tables.{same}
use Rattle.ixp_num_sorted.specs.Keys.{roa_key}
use Rattle.ixp_rtr.specs.declared.pdu.Pdu.{Pdu}
use Rattle.ixp_rtr.specs.declared.pdu.Pdu.TheVariants.{Prefix}

-- prefix, max length and AS number are the same
abbrev pub same_roa : Roa → Roa → Bool
same_roa r s = same (roa_key r) (roa_key s)

-- the ROA is in the set
abbrev pub is_among : List Roa → Roa → Bool
is_among set roa = list_any (λ r. same_roa r roa) set

-- the ROAs of one set that aren't in another, in their order
abbrev pub others : List Roa → List Roa → List Roa
others set than = filter (λ r. not (is_among than r)) set

abbrev pub withdrawal : Roa → Pdu
withdrawal roa = Prefix false roa

abbrev pub announcement : Roa → Pdu
announcement roa = Prefix true roa

-- from one set to another: a withdrawal of each ROA that only the first has, then an announcement of each
-- that only the second has
abbrev pub changes : List Roa → List Roa → List Pdu
changes from to = map withdrawal (others from to) ++ map announcement (others to from)
