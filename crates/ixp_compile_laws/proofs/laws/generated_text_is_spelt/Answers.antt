use Rattle.ixp_compile.specs.Generated.{generated, own_part}
use Rattle.ixp_lang_laws.proofs.SoundItems.{configuration_spelt}
use Rattle.ixp_compile_laws.proofs.SoundTexts.{whole_sound, own_sound}
use Rattle.ixp_compile_laws.proofs.laws.generated_text_is_spelt.Goals as goal

pub returns-clause-whole : goal.returns-clause-whole
returns-clause-whole c = λ r handle router valid there. configuration_spelt (generated r router) (whole_sound r handle router valid there)

pub returns-clause-own : goal.returns-clause-own
returns-clause-own c = λ r handle router n s valid there at. configuration_spelt (own_part r router s) (own_sound r handle router valid there n s at)
