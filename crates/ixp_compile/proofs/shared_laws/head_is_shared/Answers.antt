use Rattle.std.proofs.Common.{subst, sym}
use Rattle.ixp_lang.specs.Meaning.{known}
use Rattle.ixp_compile.specs.Generated.{header_inputs}
use Rattle.ixp_compile.specs.Header.{header}
use Rattle.ixp_compile.specs.Shared.{Shared}
use Rattle.ixp_compile.proofs.HeadKnown.{head_shared}
use Rattle.ixp_compile.proofs.Laying.{reverse_laid}
use Rattle.ixp_compile.proofs.shared_laws.head_is_shared.Goals as goal

pub returns : goal.returns
returns c = λ env r router stands. subst (λ is. Shared r router (known env is)) (sym (reverse_laid (header (header_inputs r router)))) (head_shared env r router stands)
