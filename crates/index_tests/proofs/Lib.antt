pub mod RisingLemmas
