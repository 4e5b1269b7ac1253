pub mod ThreeWay
