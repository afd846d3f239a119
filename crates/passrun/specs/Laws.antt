-- Laws of what is printed: a longer file is refused, and the beginning that the program reads is enough to tell.
use Rattle.std.specs.Prelude.{ℕ, ◌<◌, ◌≡◌, refl, List}
use Rattle.pass_records.specs.PassRecords.{beginning, record_count}
use Rattle.pass_records.specs.Laws.{beginning-by, judge-too-long}
use Rattle.listing_line.specs.ListingLine.{number_line}
use Rattle.passrun.specs.Passrun.{most_records, output_bytes, printed}

pub longer-refused : (file : List ℕ) → most_records < record_count file → printed file ≡ number_line 10
unfolding printed
longer-refused file h = rw (judge-too-long most_records file output_bytes h)

pub beginning-enough : (file : List ℕ) → printed (beginning most_records file) ≡ printed file
unfolding printed
beginning-enough file =
    beginning-by (λ f g. printed f ≡ printed g) most_records file (λ f. refl) (λ f g p q. rw (p output_bytes, q output_bytes))
