-- The named forms are parted.
use Rattle.ixp_num.specs.declared.reading.Tail.TheVariants.{Nothing, Length, Bounds}
use Rattle.ixp_num.specs.TextForms.{addr_form, net_form, pattern_form}
use Rattle.ixp_num.proofs.FormLaws.{Parted}
use Rattle.ixp_num.proofs.PartedForms.{address_parted}

pub addr_parted : Parted addr_form
addr_parted = address_parted Nothing

pub net_parted : Parted net_form
net_parted = address_parted Length

pub pattern_parted : Parted pattern_form
pattern_parted = address_parted Bounds
