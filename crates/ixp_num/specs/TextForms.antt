-- The forms of the texts that are read, by name.
use Rattle.ixp_num.specs.declared.reading.Tail.TheVariants.{Nothing, Length, Bounds}
use Rattle.ixp_num.specs.Forms.{Form}
use Rattle.ixp_num.specs.AddressForms.{address_form}

abbrev pub addr_form : Form
addr_form = address_form Nothing

abbrev pub net_form : Form
net_form = address_form Length

abbrev pub pattern_form : Form
pattern_form = address_form Bounds
