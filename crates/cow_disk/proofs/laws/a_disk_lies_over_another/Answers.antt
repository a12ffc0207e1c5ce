use Rattle.cow_disk.proofs.Pages.{absent_reads, length-over, own_reads, others_read, cut_below, whole_reads}
use Rattle.cow_disk.proofs.laws.a_disk_lies_over_another.Goals as goal

pub returns : goal.returns
returns c = record {
  size = λ disk below count. length-over disk count below;
  own = λ disk below page at count on inside own. own_reads disk count below page at on inside own;
  others = λ disk below page at count on inside other. others_read disk count below page at on inside other;
  cut = cut_below;
  absent = absent_reads;
  whole = whole_reads;
}
