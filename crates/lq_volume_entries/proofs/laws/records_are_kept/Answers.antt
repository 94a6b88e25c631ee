use Rattle.lq_volume_entries.proofs.RecordLemmas.{fails-lookup, lookup-above, lookup-altered, lookup-filter, lookup-push, node_in-none, node_in-some, Rises-altered, Rises-filter, Rises-push}
use Rattle.lq_volume_entries.proofs.laws.records_are_kept.Goals as goal

pub returns : goal.returns
returns c = record {
  found = record {
    added = lookup-push;
    removed = lookup-filter;
    altered = lookup-altered;
    above = lookup-above;
    failing = fails-lookup;
  };
  rise = record { added = Rises-push; filtered = Rises-filter; altered = Rises-altered };
  places = record { some = node_in-some; none = node_in-none };
}
