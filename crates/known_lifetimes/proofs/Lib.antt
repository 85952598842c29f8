pub mod EachWay
