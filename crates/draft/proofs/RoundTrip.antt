-- The 1998 layout as a layout of the same values: what holds in every layout holds of it (T-02).
use Rattle.a6.proofs.Layouts.{Layout}
use Rattle.draft.specs.Read.{draft_number, draft_value}
use Rattle.draft.specs.Write.{draft_data}
use Rattle.draft.specs.Standard.{draft_standard}
use Rattle.draft.proofs.ReadLaws.{readable}
use Rattle.draft.proofs.DataLaws.{value_shaped, value_writable, value_data, data_small, written_number, written_value}

abbrev pub draft_layout : Layout
draft_layout =
    record {
      number = draft_number;
      value = draft_value;
      written = draft_data;
      standard = draft_standard;
      read_writable = λ octets s e. let r = readable octets e in value_writable octets s r.0 r.1;
      read_shaped = λ octets s e. let r = readable octets e in value_shaped octets s r.0 r.1;
      read_written = λ octets s e. let r = readable octets e in value_data octets s r.0 r.1;
      written_number = λ v s w. written_number v s.address_long w;
      written_value = λ v s w. written_value v s.address_long w s;
      written_small = data_small;
    }
