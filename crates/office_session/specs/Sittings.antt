-- The office between chunks. Definitions only.
use Rattle.office_serve.specs.declared.feeding.Sitting.{Sitting}
use Rattle.paper.specs.Limits.{office_claims}

abbrev pub anew_of : Sitting → Sitting
anew_of sit = record sit { at = 0; written = 0 }

abbrev pub emptied_of : Sitting → Sitting
emptied_of sit = record sit { written = 0 }

-- [10.1] [10.10] before the first byte
abbrev pub sitting_start : Sitting
sitting_start =
    record {
      table = record { number = 0; measure = 1; d = 1; capacity = office_claims; count = 0; used = 0 };
      size = 0;
      left = 4294967295;
      at = 0;
      written = 0;
    }
