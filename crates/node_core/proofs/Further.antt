-- What is carried is carried where more was sent; as frames are fetched and entries told; and a node that starts carries nothing.
use Rattle.std.proofs.Common.{◌≡◌, ◌++◌, ℕ, arith, sym, subst}
use Rattle.std.specs.Prelude.{◌⊎◌}
use Rattle.std.proofs.lemmas.Bool.Decides.{nat_tests}
use Rattle.l3_datagram.specs.Onward.{GoesOneHopOn}
use Rattle.link_table.specs.Laws.{CarriesByWeaker, CarriesWhatWasOffered}
use Rattle.ax_frame.specs.Frames.{SpelledIsRead}
use Rattle.link_table.specs.Reaching.{FramesAreSpelled, IsCall}
use Rattle.node_core.specs.Carried.{CarriedFurther, is_aloft}
use Rattle.node_core.proofs.Bearing.{carried_bears}
use Rattle.node_core.proofs.Moves.{all_carried, broadcast_carried, fetched_links}
use Rattle.node_core.proofs.Trails.{all_carried_more, aloft_behind, aloft_more, around_more}

module _ (law : CarriesWhatWasOffered) (weaker : CarriesByWeaker) (spelled : FramesAreSpelled) (one_hop : GoesOneHopOn) (is_read : SpelledIsRead) where
  pub carried_further : CarriedFurther
  carried_further = record {
    more = λ here sent more borne n x. around_more here weaker borne (sent ++ more) n (all_carried_more here weaker sent more n x);
    aloft = aloft_more;
    behind = aloft_behind;
    bears = λ size offers octets m x. carried_bears is_read size offers octets m x;
    frames = λ here sent n x. all_carried here law weaker spelled one_hop sent n x;
    fetched = λ here sent n x. record {
      links = (fetched_links here law weaker spelled one_hop sent n x).0;
      reaches = (fetched_links here law weaker spelled one_hop sent n x).1;
      own = tt;
      untold = x.untold;
      names = x.names;
      call = x.call;
    };
    qualities = λ here sent neighbour quality n x. record { links = x.links; reaches = x.reaches; own = x.own; untold = x.untold; names = x.names; call = x.call };
    told = λ here sent n x. record { links = x.links; reaches = x.reaches; own = x.own; untold = x.untold; names = x.names; call = x.call };
    broadcasts = λ size borne own b c. broadcast_carried size (is_aloft borne) own b c;
    starts = λ here sent hosts c own call m w. record {
      links = record {
        modulus = subst (λ (k : ℕ). (k ≡ 8) ⊎ (k ≡ 128)) (sym w) m;
        size = grind (arith, nat_tests, w);
        links = tt;
        waiting = tt;
        frames = tt;
      };
      reaches = record { modulus = m; of_size = w; own = call; links = tt; paths = tt; frames = tt };
      own = tt;
      untold = tt;
      names = tt;
      call = (own, subst IsCall own call);
    };
    paths = λ here sent peer path n w x. record {
      links = record { modulus = x.links.modulus; size = x.links.size; links = x.links.links; waiting = x.links.waiting; frames = x.links.frames };
      reaches = (spelled here.size).paths n.links peer path w x.reaches;
      own = x.own;
      untold = x.untold;
      names = x.names;
      call = x.call;
    };
  }
